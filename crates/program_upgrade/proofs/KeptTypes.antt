-- The types that the tables of an accepted program hold name classes by names of its table.
use Rattle.std.proofs.Common.{◌≡◌, ◌<◌, ℕ, zero, suc, Option, Some, None, List, [], ◌∷◌, length, map as over, refl, sym, ap, ◌∙◌, subst}
use Rattle.std.specs.Prelude.{slice_get, option_map, filter_map, find, IfSome}
use Rattle.std.specs.List.{All, cons_option}
use Rattle.std.proofs.Math.Bridge.{le_prop}
use Rattle.std.proofs.Math.Logic.{∥∥₁_elim}
use Rattle.std.proofs.lemmas.Option.{none-some, same_Some}
use Rattle.py_tree.specs.declared.stmt.Target.TheVariants.{Local, Field}
use Rattle.py_tree.specs.PlainTypes.{PlainTy, TInt, TBool, TStr, TNil, TList, TOptional, TEntity, PlainWritten, WInt, WBool, WStr, WNil, WList, WOptional, WEntity, type_of as type_written}
use Rattle.py_tree.specs.PlainStatements.{PlainStmt, PAssign, stmts_of}
use Rattle.py_tree.specs.PlainProgram.{PlainParam, PlainMethod, PlainClass, PlainProgram}
use Rattle.py_tree.specs.ClassRules.{PlainField, PlainSigParam, PlainSig, PlainTable, is_init, declaration, fields_of, body_of, params_of, init_of as init_among, methods_of as methods_among, written_or_none, sig_param, sig_params, sig_of, table_of, tables_of}
use Rattle.py_tree.specs.Bounded.{TypeNames, StmtNames, StmtsNames, IsBounded, IsBoundedClass, IsBoundedMethod, IsBoundedParam}
use Rattle.program_meaning.specs.Fits.{HasTable}
use Rattle.program_meaning.specs.NothingGoesWrong.{IsKnownAccepted}
use Rattle.program_meaning.proofs.Places.{found_at}
use Rattle.program_meaning.proofs.TableFacts.{all_at, mapped_at, class_at, filtered_at}

-- each class that a type names has a number below this one
abbrev pub TyNames : ℕ → PlainTy → Type 0
TyNames n TInt = Unit {0}
TyNames n TBool = Unit {0}
TyNames n TStr = Unit {0}
TyNames n TNil = Unit {0}
TyNames n (TList t) = TyNames n t
TyNames n (TOptional t) = TyNames n t
TyNames n (TEntity x) = x < n

unit_same : (a b : Unit {0}) → a ≡ b
unit_same a b = refl

names_same : (n : ℕ) (t : PlainTy) (a b : TyNames n t) → a ≡ b
names_same n TInt a b = unit_same a b
names_same n TBool a b = unit_same a b
names_same n TStr a b = unit_same a b
names_same n TNil a b = unit_same a b
names_same n (TList t) a b = names_same n t a b
names_same n (TOptional t) a b = names_same n t a b
names_same n (TEntity x) a b = le_prop a b

written_names : (n : ℕ) (w : PlainWritten) → TypeNames n w → TyNames n (type_written w)
unfolding TypeNames
written_names n (WInt at) h = tt
written_names n (WBool at) h = tt
written_names n (WStr at) h = tt
written_names n (WNil at) h = tt
written_names n (WList at w) h = written_names n w h
written_names n (WOptional at w) h = written_names n w h
written_names n (WEntity at x) h = h

option_names : (n : ℕ) (o : Option PlainWritten) → IfSome o (TypeNames n) → TyNames n (written_or_none o)
option_names n None h = tt
option_names n (Some w) h = written_names n w h

-- of each item the type does
abbrev pub Named : {A : Type 0} → (A → PlainTy) → ℕ → List A → Type 0
Named {A} ty n xs = (k : ℕ) (x : A) → slice_get xs k ≡ Some x → TyNames n (ty x)

fields_named : (n : ℕ) (body : List PlainStmt) → StmtsNames n (stmts_of body) → Named (λ (f : PlainField). f.ty) n (fields_of body)
unfolding fields_of StmtsNames
fields_named n [] h k f is = absurd (none-some f is)
fields_named n (PAssign at (Field x) (Some w) e ∷ body) h zero f is = subst (λ (g : PlainField). TyNames n g.ty) (same_Some _ f is) (written_names n w h.0.1)
fields_named n (PAssign at (Field x) (Some w) e ∷ body) h (suc k) f is = fields_named n body h.1 k f is
fields_named n (_ ∷ body) h k f is = fields_named n body h.1 k f is

no_stmts : (n : ℕ) → StmtsNames n (stmts_of [])
unfolding StmtsNames
no_stmts n = tt

params_named : (n : ℕ) (ps : List PlainParam) → All (IsBoundedParam n) ps → Named (λ (p : PlainSigParam). p.ty) n (sig_params ps)
params_named n ps all k p is =
    let a : (x : PlainParam) × (slice_get ps k ≡ Some x) × (sig_param x ≡ p) = mapped_at sig_param ps k p is in
    subst (λ (q : PlainSigParam). TyNames n q.ty) a.2 (option_names n a.0.ty (all_at (IsBoundedParam n) ps k a.0 all a.1).type_named)

module _ (names : List (List ℕ)) (program : PlainProgram) (known : IsKnownAccepted names program) where
  abbrev tables : List PlainTable
  tables = tables_of names program

  class_bounded : (class : ℕ) (c : PlainClass) → slice_get program class ≡ Some c → IsBounded names program → IsBoundedClass (length names) c
  class_bounded class c is b = all_at (IsBoundedClass (length names)) program class c b.classes is

  init_bounded : (c : PlainClass) → IsBoundedClass (length names) c → (m : PlainMethod) → init_among names c.members ≡ Some m → IsBoundedMethod (length names) m
  unfolding init_among
  init_bounded c b m is =
      let i : (i : ℕ) × _ × (slice_get c.members i ≡ Some m) = found_at (λ (d : PlainMethod). is_init names d.name) c.members m is in
      all_at (IsBoundedMethod (length names)) c.members i.0 m b.members i.2

  init_fields : (c : PlainClass) → IsBoundedClass (length names) c → Named (λ (f : PlainField). f.ty) (length names) (fields_of (body_of (init_among names c.members)))
  init_fields c b = by (init_among names c.members) refl
    where
      none : Named (λ (f : PlainField). f.ty) (length names) (fields_of [])
      none = fields_named (length names) [] (no_stmts (length names))

      by : (o : Option PlainMethod) → init_among names c.members ≡ o → Named (λ (f : PlainField). f.ty) (length names) (fields_of (body_of o))
      by None is = none
      by (Some m) is = fields_named (length names) m.body (init_bounded c b m is).body_named

  init_params : (c : PlainClass) → IsBoundedClass (length names) c → Named (λ (p : PlainSigParam). p.ty) (length names) (sig_params (params_of (init_among names c.members)))
  init_params c b = by (init_among names c.members) refl
    where
      by : (o : Option PlainMethod) → init_among names c.members ≡ o → Named (λ (p : PlainSigParam). p.ty) (length names) (sig_params (params_of o))
      by None is = λ k p is. absurd (none-some p is)
      by (Some m) is = params_named (length names) m.params (init_bounded c b m is).params

  -- the fields of a class, the parameters of its `__init__`, and its methods
  pub table_fields : (class : ℕ) (t : PlainTable) → HasTable tables class t → Named (λ (f : PlainField). f.ty) (length names) t.fields
  unfolding table_of
  table_fields class t has k f is =
      let c : (c : PlainClass) × (slice_get program class ≡ Some c) × (table_of names c ≡ t) = class_at names program known.rules.classes class t has in
      ∥∥₁_elim known.bounded (names_same (length names) f.ty) (λ (b : IsBounded names program).
      subst (λ (u : PlainTable). Named (λ (f : PlainField). f.ty) (length names) u.fields) c.2 (init_fields c.0 (class_bounded class c.0 c.1 b)) k f is)

  pub table_params : (class : ℕ) (t : PlainTable) → HasTable tables class t → Named (λ (p : PlainSigParam). p.ty) (length names) t.init
  unfolding table_of
  table_params class t has k p is =
      let c : (c : PlainClass) × (slice_get program class ≡ Some c) × (table_of names c ≡ t) = class_at names program known.rules.classes class t has in
      ∥∥₁_elim known.bounded (names_same (length names) p.ty) (λ (b : IsBounded names program).
      subst (λ (u : PlainTable). Named (λ (p : PlainSigParam). p.ty) (length names) u.init) c.2 (init_params c.0 (class_bounded class c.0 c.1 b)) k p is)

  sig_bounded : (class : ℕ) (t : PlainTable) → HasTable tables class t → (j : ℕ) (s : PlainSig) → slice_get t.methods j ≡ Some s → (m : PlainMethod) × (sig_of m ≡ s) × (IsBounded names program → IsBoundedMethod (length names) m)
  unfolding table_of methods_among
  sig_bounded class t has j s is =
      let c : (c : PlainClass) × (slice_get program class ≡ Some c) × (table_of names c ≡ t) = class_at names program known.rules.classes class t has in
      let m : (m : PlainMethod) × (slice_get (methods_among names c.0.members) j ≡ Some m) × (sig_of m ≡ s) = mapped_at sig_of (methods_among names c.0.members) j s (ap (λ (u : PlainTable). slice_get u.methods j) c.2 ∙ is) in
      let i : (i : ℕ) × (slice_get c.0.members i ≡ Some m.0) = filtered_at _ c.0.members j m.0 m.1 in
      (m.0, m.2, λ b. all_at (IsBoundedMethod (length names)) c.0.members i.0 m.0 (class_bounded class c.0 c.1 b).members i.1)

  pub method_params : (class : ℕ) (t : PlainTable) → HasTable tables class t → (j : ℕ) (s : PlainSig) → slice_get t.methods j ≡ Some s → Named (λ (p : PlainSigParam). p.ty) (length names) s.params
  method_params class t has j s is k p at =
      let m : (m : PlainMethod) × (sig_of m ≡ s) × (IsBounded names program → IsBoundedMethod (length names) m) = sig_bounded class t has j s is in
      ∥∥₁_elim known.bounded (names_same (length names) p.ty) (λ (b : IsBounded names program).
      subst (λ (u : PlainSig). Named (λ (p : PlainSigParam). p.ty) (length names) u.params) m.1 (params_named (length names) m.0.params (m.2 b).params) k p at)

  pub method_result : (class : ℕ) (t : PlainTable) → HasTable tables class t → (j : ℕ) (s : PlainSig) → slice_get t.methods j ≡ Some s → TyNames (length names) s.result
  method_result class t has j s is =
      let m : (m : PlainMethod) × (sig_of m ≡ s) × (IsBounded names program → IsBoundedMethod (length names) m) = sig_bounded class t has j s is in
      ∥∥₁_elim known.bounded (names_same (length names) s.result) (λ (b : IsBounded names program).
      subst (λ (u : PlainSig). TyNames (length names) u.result) m.1 (option_names (length names) m.0.result (m.2 b).result_named))
