-- When parts of two programs read alike. Each program numbers its names for itself, so names are the same where their texts are.
use Rattle.std.specs.Prelude.{ℕ, Bool, true, false, ◌&&◌, ◌==◌, List, [], ◌∷◌, length, bytes_eq}
use Rattle.py_tree.specs.PlainTypes.{PlainTy, TInt, TBool, TStr, TNil, TList, TOptional, TEntity}
use Rattle.py_tree.specs.ClassRules.{PlainField, PlainSigParam, PlainSig, PlainTable, text_of}

-- each of the first stands at its place among the second, behind which more may come
abbrev pub begins : {A : Type 0} → (A → A → Bool) → List A → List A → Bool
begins same [] ys = true
begins same (x ∷ xs) [] = false
begins same (x ∷ xs) (y ∷ ys) = same x y && begins same xs ys

-- both have as many, and each is the same as the one at its place
abbrev pub same_list : {A : Type 0} → (A → A → Bool) → List A → List A → Bool
same_list same xs ys = length xs == length ys && begins same xs ys

-- ---- of two programs with these tables of names

unfoldable pub same_name : List (List ℕ) → List (List ℕ) → ℕ → ℕ → Bool
same_name old new x y = bytes_eq (text_of old x) (text_of new y)

-- types of the same form, of which classes have the same name
abbrev pub same_type : List (List ℕ) → List (List ℕ) → PlainTy → PlainTy → Bool
same_type old new TInt TInt = true
same_type old new TBool TBool = true
same_type old new TStr TStr = true
same_type old new TNil TNil = true
same_type old new (TList s) (TList t) = same_type old new s t
same_type old new (TOptional s) (TOptional t) = same_type old new s t
same_type old new (TEntity x) (TEntity y) = same_name old new x y
same_type old new _ _ = false

abbrev pub same_field : List (List ℕ) → List (List ℕ) → PlainField → PlainField → Bool
same_field old new f g = same_name old new f.name g.name && same_type old new f.ty g.ty

-- of parameters the types count alone, since arguments have no names
abbrev pub same_param : List (List ℕ) → List (List ℕ) → PlainSigParam → PlainSigParam → Bool
same_param old new p q = same_type old new p.ty q.ty

abbrev pub same_params : List (List ℕ) → List (List ℕ) → List PlainSigParam → List PlainSigParam → Bool
same_params old new ps qs = same_list (same_param old new) ps qs

abbrev pub same_method : List (List ℕ) → List (List ℕ) → PlainSig → PlainSig → Bool
same_method old new m n = same_name old new m.name n.name && same_params old new m.params n.params && same_type old new m.result n.result

-- ---- what the later table of a class keeps of the earlier one

abbrev pub keeps_fields : List (List ℕ) → List (List ℕ) → PlainTable → PlainTable → Bool
keeps_fields old new t u = begins (same_field old new) t.fields u.fields && t.key_field == u.key_field

abbrev pub keeps_init : List (List ℕ) → List (List ℕ) → PlainTable → PlainTable → Bool
keeps_init old new t u = same_params old new t.init u.init && t.key_param == u.key_param

abbrev pub keeps_methods : List (List ℕ) → List (List ℕ) → PlainTable → PlainTable → Bool
keeps_methods old new t u = begins (same_method old new) t.methods u.methods
