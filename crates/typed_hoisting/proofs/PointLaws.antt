-- Points of what is surely assigned: what leads to them, and what is known behind them.
use Rattle.std.proofs.Common.{◌≡◌, ℕ, Bool, true, false, cond, Option, Some, None, List, [], ◌∷◌, map, if◌then◌else◌, refl, sym, ap, ◌∙◌, subst, true≢false}
use Rattle.std.specs.Prelude.{◌&&◌, ◌==◌, option_map, option_and_then, find}
use Rattle.std.specs.List.{cons_option}
use Rattle.std.specs.Cmp.Derive.{both_true as both_hold}
use Rattle.std.proofs.lemmas.Bool.{eqb-true, eq-eqb}
use Rattle.std.proofs.lemmas.Option.{same_Some, none-some}
use Rattle.py_tree.specs.PlainTypes.{PlainTy, TOptional}
use Rattle.py_tree.specs.FlowEnvironment.{PlainLocal, local_of}
use Rattle.py_tree.specs.ExpressionTypes.{same_ty, assignable, inside, read_ty}
use Rattle.py_tree.proofs.TypeLaws.{same-refl}
use Rattle.program_meaning.proofs.Places.{find_over, found_passes}
use Rattle.block_code.specs.PlainVars.{PlainVar}
use Rattle.block_code.specs.GraphFits.{var_of, is_var, is_inside, local_at, at_start, is_supplied, supplied}
use Rattle.flat_tree.specs.PlainFlat.{Point}
use Rattle.flat_types.specs.FlatTypes.{Supplies}
use Rattle.hoisting.specs.Stages.{surely}
use Rattle.hoisting.specs.Stages.{var_of as entry}
use Rattle.typed_hoisting.specs.KnownLocals.{Seen, is_optional, seen_of, seen, Under, Once, Free, AreVariables, Stands, AtLeast}
use Rattle.typed_hoisting.proofs.LocalLaws.{apart, kept_same}
use Rattle.typed_hoisting.proofs.EnvironmentLaws.{found_below}
use Rattle.typed_hoisting.proofs.Assignable.{assigned_itself, inside_suits}

-- Variables by their names

abbrev var_ty : PlainVar → PlainTy
var_ty v = v.ty

module _ (g : PlainVar → PlainLocal) (names : (v : PlainVar) → (g v).name ≡ v.name) where
  begun_local : (vs : List PlainVar) (x : ℕ) → local_of (map g vs) x ≡ option_map g (find (is_var x) vs)
  unfolding local_of
  begun_local [] x = refl
  begun_local (v ∷ vs) x = ap (λ n. cond (n == x) (Some (g v)) (local_of (map g vs) x)) (names v) ∙ by (v.name == x) (begun_local vs x)
    where
      by : (b : Bool) → local_of (map g vs) x ≡ option_map g (find (is_var x) vs) → cond b (Some (g v)) (local_of (map g vs) x) ≡ option_map g (cond b (Some v) (find (is_var x) vs))
      by true e = refl
      by false e = e

begins_name : (v : PlainVar) (o : Option PlainVar) → (local_at v o).name ≡ v.name
begins_name v None = refl
begins_name v (Some p) = refl

begins_var : (v : PlainVar) (o : Option PlainVar) → var_of (local_at v o) ≡ v
begins_var v None = refl
begins_var v (Some p) = refl

module _ (variables : List PlainVar) where
  pub found_variable : (env : List PlainLocal) (x : ℕ) → AreVariables variables env → find (is_var x) variables ≡ option_map var_of (local_of env x)
  unfolding local_of
  found_variable env x are = ap (find (is_var x)) (sym are) ∙ find_over var_of (is_var x) env

  -- a variable of this name and type
  abbrev pub IsVariable : ℕ → PlainTy → Type 0
  IsVariable n t = find (is_var n) variables ≡ Some (record { name = n; ty = t })

  abbrev pub Found : List PlainLocal → ℕ → PlainTy → Type 0
  Found env n t = (l : PlainLocal) × (local_of env n ≡ Some l) × (l.ty ≡ t)

  pub found_local : (env : List PlainLocal) (n : ℕ) (t : PlainTy) → AreVariables variables env → IsVariable n t → Found env n t
  found_local env n t are is = by (local_of env n) refl (sym (found_variable env n are) ∙ is)
    where
      by : (o : Option PlainLocal) → local_of env n ≡ o → option_map var_of o ≡ Some (record { name = n; ty = t }) → Found env n t
      by None e h = absurd (none-some _ h)
      by (Some l) e h = (l, e, ap var_ty (same_Some _ _ h))

  -- At the start of a block

  module _ (point : Point) where
    abbrev begins : PlainVar → PlainLocal
    begins v = local_at v (find (is_var v.name) point)

    each_variable : (vs : List PlainVar) → map var_of (map begins vs) ≡ vs
    each_variable [] = refl
    each_variable (v ∷ vs) = ap (λ (u : PlainVar). u ∷ map var_of (map begins vs)) (begins_var v (find (is_var v.name) point)) ∙ ap (λ us. v ∷ us) (each_variable vs)

    start_variables : AreVariables variables (at_start variables point)
    unfolding at_start
    start_variables = each_variable variables

    start_local : (x : ℕ) → local_of (at_start variables point) x ≡ option_map begins (find (is_var x) variables)
    unfolding at_start
    start_local x = begun_local begins (λ v. begins_name v (find (is_var v.name) point)) variables x

-- What a point names

nothing_then : (o : Option PlainLocal) → o ≡ None → option_and_then entry o ≡ None
nothing_then o e = ap (option_and_then entry) e

surely_found : (locals : List PlainLocal) → Once locals → (x : ℕ) → find (is_var x) (surely locals) ≡ option_and_then entry (local_of locals x)
unfolding local_of
surely_found [] once x = refl
surely_found (m ∷ locals) once x = by (m.name == x) refl m.assigned (surely_found locals once.1 x) ∙ out (m.name == x)
  where
    here : PlainVar
    here = record { name = m.name; ty = read_ty m }

    out : (b : Bool) → cond b (entry m) (option_and_then entry (local_of locals x)) ≡ option_and_then entry (cond b (Some m) (local_of locals x))
    out true = refl
    out false = refl

    by : (b : Bool) → (m.name == x) ≡ b → (a : Bool) → find (is_var x) (surely locals) ≡ option_and_then entry (local_of locals x)
        → find (is_var x) (cons_option (if a then Some here else None) (surely locals)) ≡ cond b (if a then Some here else None) (option_and_then entry (local_of locals x))
    by true e true rest = ap (λ b. cond b (Some here) (find (is_var x) (surely locals))) e
    by true e false rest = rest ∙ nothing_then (local_of locals x) (ap (local_of locals) (sym (eqb-true m.name x e)) ∙ once.0)
    by false e true rest = ap (λ b. cond b (Some here) (find (is_var x) (surely locals))) e ∙ rest
    by false e false rest = rest

-- a point is supplied where each of its locals is
supplied_by : (env locals : List PlainLocal) → Once locals → ((l : PlainLocal) → local_of locals l.name ≡ Some l → l.assigned ≡ true → is_supplied (local_of env l.name) (read_ty l) ≡ true) → supplied env (surely locals) ≡ true
unfolding local_of
supplied_by env [] once h = refl
supplied_by env (m ∷ locals) once h = by m.assigned refl (supplied_by env locals once.1 (λ l is a. h l (ap (λ b. cond b (Some m) (local_of locals l.name)) (other l is) ∙ is) a))
  where
    other : (l : PlainLocal) → local_of locals l.name ≡ Some l → (m.name == l.name) ≡ false
    other l is = apart m.name l.name (λ e. none-some l (sym once.0 ∙ ap (local_of locals) e ∙ is))

    by : (a : Bool) → m.assigned ≡ a → supplied env (surely locals) ≡ true → supplied env (cons_option (if a then Some (record { name = m.name; ty = read_ty m }) else None) (surely locals)) ≡ true
    by true e rest = both_hold (h m (ap (λ b. cond b (Some m) (local_of locals m.name)) (eq-eqb m.name m.name refl)) e) rest
    by false e rest = rest

-- Types at points

not_inside : (u : PlainTy) → same_ty u (TOptional u) ≡ false
not_inside (TOptional v) = not_inside v
not_inside _ = refl

point_less : (t : PlainTy) (n : Bool) → (is_optional t && n) ≡ (is_optional t && is_inside t (if n then inside t else t))
point_less (TOptional u) true = sym (same-refl u)
point_less (TOptional u) false = sym (not_inside u)
point_less _ n = refl

read_suits : (t : PlainTy) (n m : Bool) → (is_optional t && n ≡ true → is_optional t && m ≡ true) → assignable (if m then inside t else t) (if n then inside t else t) ≡ true
read_suits (TOptional u) true true h = assigned_itself u
read_suits (TOptional u) true false h = absurd (true≢false (sym (h refl)))
read_suits (TOptional u) false true h = inside_suits u
read_suits (TOptional u) false false h = assigned_itself (TOptional u)
read_suits _ true true h = assigned_itself _
read_suits _ true false h = assigned_itself _
read_suits _ false true h = assigned_itself _
read_suits _ false false h = assigned_itself _

abbrev seen_as : PlainTy → Bool → Seen
seen_as t b = record { ty = t; less = b }

module _ (variables : List PlainVar) where
  -- what is assigned here is a variable of its type
  abbrev pub Known : List PlainLocal → Type 0
  Known locals = (x : ℕ) (m : PlainLocal) → local_of locals x ≡ Some m → m.assigned ≡ true → option_map var_ty (find (is_var x) variables) ≡ Some m.ty

  pub point_stands : (locals : List PlainLocal) → Once locals → Known locals → (n : ℕ) → Stands variables n locals (at_start variables (surely locals))
  point_stands locals once known n = record {
    are = start_variables variables (surely locals);
    alike = record {
      alike = λ x below.
          kept_same (seen locals x) (seen (at_start variables (surely locals)) x) (by x (find (is_var x) variables) refl (local_of locals x) refl ∙ sym (ap seen_of (start_local variables (surely locals) x)));
    };
  }
    where
      gone : (x : ℕ) (m : PlainLocal) → find (is_var x) variables ≡ None → local_of locals x ≡ Some m → (b : Bool) → m.assigned ≡ b → (if b then Some (seen_as m.ty (is_optional m.ty && m.not_none)) else None) ≡ None
      gone x m e f true g = absurd (none-some m.ty (sym (ap (option_map var_ty) e) ∙ known x m f g))
      gone x m e f false g = refl

      here : (x : ℕ) (v : PlainVar) (m : PlainLocal) → find (is_var x) variables ≡ Some v → local_of locals x ≡ Some m → (b : Bool) → m.assigned ≡ b
          → (if b then Some (seen_as m.ty (is_optional m.ty && m.not_none)) else None) ≡ seen_of (Some (local_at v (if b then Some (record { name = m.name; ty = read_ty m }) else None)))
      here x v m e f true g =
          ap (λ n. Some (seen_as m.ty n)) (point_less m.ty m.not_none)
          ∙ ap (λ t. Some (seen_as t (is_optional t && is_inside t (read_ty m)))) (sym (same_Some _ _ (sym (ap (option_map var_ty) e) ∙ known x m f g)))
      here x v m e f false g = refl

      turn : (x : ℕ) (v : PlainVar) → find (is_var x) variables ≡ Some v → (q : Option PlainLocal) → local_of locals x ≡ q → seen_of q ≡ seen_of (Some (local_at v (option_and_then entry q)))
      turn x v e None f = refl
      turn x v e (Some m) f = here x v m e f m.assigned refl

      by : (x : ℕ) (o : Option PlainVar) → find (is_var x) variables ≡ o → (q : Option PlainLocal) → local_of locals x ≡ q → seen_of q ≡ seen_of (option_map (begins variables (surely locals)) o)
      by x None e None f = refl
      by x None e (Some m) f = gone x m e f m.assigned refl
      by x (Some v) e q f =
          turn x v e q f
          ∙ sym (ap (λ o. seen_of (Some (local_at v o))) (ap (λ y. find (is_var y) (surely locals)) (eqb-true v.name x (found_passes (is_var x) variables v e)) ∙ surely_found locals once x ∙ ap (option_and_then entry) f))

  -- what is known of a name is known in the environment
  abbrev KnownThere : PlainLocal → Option PlainLocal → Type 0
  KnownThere m o = (l : PlainLocal) × (o ≡ Some l) × (l.assigned ≡ true) × (m.ty ≡ l.ty) × (is_optional m.ty && m.not_none ≡ true → is_optional l.ty && l.not_none ≡ true)

  module _ (k : ℕ) (locals env : List PlainLocal) (free : Free k locals) (least : AtLeast variables k locals env) where
    known_there : (x : ℕ) (m : PlainLocal) → local_of locals x ≡ Some m → m.assigned ≡ true → KnownThere m (local_of env x)
    known_there x m e f = by (local_of env x) (subst (λ o. Under o (seen env x)) (ap seen_of e ∙ ap (λ b. if b then Some (seen_as m.ty (is_optional m.ty && m.not_none)) else None) f) (least.under x (found_below k x locals m free e)))
      where
        here : (l : PlainLocal) (b : Bool) → l.assigned ≡ b → Under (Some (seen_as m.ty (is_optional m.ty && m.not_none))) (if b then Some (seen_as l.ty (is_optional l.ty && l.not_none)) else None) → KnownThere m (Some l)
        here l true g u = (l, refl, g, u.0, u.1)
        here l false g u = absurd u

        by : (o : Option PlainLocal) → Under (Some (seen_as m.ty (is_optional m.ty && m.not_none))) (seen_of o) → KnownThere m o
        by None u = absurd u
        by (Some l) u = here l l.assigned refl u

    known_least : Known locals
    known_least x m e f =
        let p : KnownThere m (local_of env x) = known_there x m e f in
        ap (option_map var_ty) (found_variable variables env x least.are ∙ ap (option_map var_of) p.1) ∙ ap Some (sym p.3)

    supplied_there : (m : PlainLocal) (o : Option PlainLocal) → KnownThere m o → is_supplied o (read_ty m) ≡ true
    supplied_there m o p = ap (λ o. is_supplied o (read_ty m)) p.1 ∙ both_hold p.2 (fit p.0.ty p.3 p.4)
      where
        fit : (t : PlainTy) → m.ty ≡ t → (is_optional m.ty && m.not_none ≡ true → is_optional t && p.0.not_none ≡ true) → assignable (if p.0.not_none then inside t else t) (read_ty m) ≡ true
        fit t e h = subst (λ t. (is_optional m.ty && m.not_none ≡ true → is_optional t && p.0.not_none ≡ true) → assignable (if p.0.not_none then inside t else t) (read_ty m) ≡ true) e (λ h. read_suits m.ty m.not_none p.0.not_none h) h

    -- a way leads to the point of what is surely assigned
    pub supplies : Supplies (surely locals) env
    supplies = supplied_by env locals free.once (λ l is a. supplied_there l (local_of env l.name) (known_there l.name l is a))

    -- and behind it as much is known, of every name
    pub stands_behind : (n : ℕ) → Stands variables n locals (at_start variables (surely locals))
    stands_behind n = point_stands locals free.once known_least n
