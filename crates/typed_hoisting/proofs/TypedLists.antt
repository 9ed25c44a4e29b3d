-- Lists of typed expressions: arguments, operands of functions and elements, and the rules on them.
use Rattle.std.proofs.Common.{◌≡◌, ◌≤◌, arith, ℕ, suc, Bool, true, false, not, Option, Some, None, Ok, List, [], ◌∷◌, length, refl, ap, ◌∙◌}
use Rattle.std.specs.Prelude.{⊤}
use Rattle.std.specs.declared.result.Result.{Result}
use Rattle.py_tree.specs.declared.rule.RuleFault.{RuleFault}
use Rattle.py_tree.specs.declared.rule.Rule.TheVariants.{NoneUse, Operand, Mismatch}
use Rattle.py_tree.specs.Bounded.{ExprsNames}
use Rattle.py_tree.specs.PlainTypes.{PlainTy, TList}
use Rattle.py_tree.specs.ClassRules.{PlainSigParam}
use Rattle.py_tree.specs.PlainExpressions.{PlainExprs, PNoExpr, PExpr}
use Rattle.py_tree.specs.FlowEnvironment.{PlainLocal, has_none}
use Rattle.py_tree.specs.ExpressionTypes.{assignable, place_of, count_of, refuse_if, with_found, fits, operand, arguments, each_is, elements, type_of}
use Rattle.py_tree.specs.Flow.{Context, env_of, type_at}
use Rattle.program_meaning.proofs.TypedParts.{found_ok, refuse_ok, passes_ok}
use Rattle.hoisting.specs.HoistExpressions.{by_params, each_wanted, first_wanted, others_wanted}
use Rattle.typed_hoisting.specs.KnownLocals.{Alike}
use Rattle.typed_hoisting.proofs.EnvironmentLaws.{kept_at}

-- each type suits its parameter
abbrev pub SuitParams : List PlainTy → List PlainSigParam → Type 0
SuitParams [] [] = ⊤
SuitParams (t ∷ ts) (p ∷ ps) = (assignable t p.ty ≡ true) × SuitParams ts ps
SuitParams _ _ = ⊥

-- each type is that of an operand
abbrev pub AreOperands : (PlainTy → Bool) → List PlainTy → Type 0
AreOperands test [] = ⊤
AreOperands test (t ∷ ts) = (has_none t ≡ false) × (test t ≡ true) × AreOperands test ts

-- each type suits an element
abbrev pub SuitElement : PlainTy → List PlainTy → Type 0
SuitElement element [] = ⊤
SuitElement element (t ∷ ts) = (assignable t element ≡ true) × SuitElement element ts

module _ (c : Context) where
  -- expressions of these types, where these are wanted
  abbrev pub TypedEach : List (Option PlainTy) → List PlainTy → List PlainLocal → PlainExprs → Type 0
  TypedEach wanted [] locals PNoExpr = ⊤
  TypedEach wanted (t ∷ ts) locals (PExpr x xs) = (type_at c locals (first_wanted wanted) x ≡ Ok t) × TypedEach (others_wanted wanted) ts locals xs
  TypedEach wanted _ locals _ = ⊥

  pub each_stay_typed : (limit k : ℕ) (a b : List PlainLocal) → limit ≤ k → Alike k a b → (wanted : List (Option PlainTy)) (ts : List PlainTy) (es : PlainExprs) → ExprsNames limit es → TypedEach wanted ts a es → TypedEach wanted ts b es
  unfolding ExprsNames
  each_stay_typed limit k a b up f wanted [] PNoExpr named h = tt
  each_stay_typed limit k a b up f wanted [] (PExpr x xs) named h = absurd h
  each_stay_typed limit k a b up f wanted (t ∷ ts) PNoExpr named h = absurd h
  each_stay_typed limit k a b up f wanted (t ∷ ts) (PExpr x xs) named h = (kept_at c limit k a b up f (first_wanted wanted) x t named.0 h.0, each_stay_typed limit k a b up f (others_wanted wanted) ts xs named.1 h.1)

  pub as_many : (wanted : List (Option PlainTy)) (ts : List PlainTy) (locals : List PlainLocal) (es : PlainExprs) → TypedEach wanted ts locals es → count_of es ≡ length ts
  as_many wanted [] locals PNoExpr h = refl
  as_many wanted [] locals (PExpr x xs) h = absurd h
  as_many wanted (t ∷ ts) locals PNoExpr h = absurd h
  as_many wanted (t ∷ ts) locals (PExpr x xs) h = omega (arith, as_many (others_wanted wanted) ts locals xs h.1)

  -- Arguments

  pub params_as_many : (ts : List PlainTy) (ps : List PlainSigParam) → SuitParams ts ps → length ts ≡ length ps
  params_as_many [] [] h = refl
  params_as_many [] (p ∷ ps) h = absurd h
  params_as_many (t ∷ ts) [] h = absurd h
  params_as_many (t ∷ ts) (p ∷ ps) h = omega (arith, params_as_many ts ps h.1)

  abbrev pub ArgumentTypes : List PlainLocal → PlainExprs → List PlainSigParam → Type 0
  ArgumentTypes locals xs ps = (ts : List PlainTy) × TypedEach (by_params ps) ts locals xs × SuitParams ts ps

  zero_differs : (n : ℕ) → 0 ≡ suc n → ⊥
  zero_differs n h = omega (arith, h)

  pub from_arguments : (locals : List PlainLocal) (xs : PlainExprs) (ps : List PlainSigParam) (result ty : PlainTy) → count_of xs ≡ length ps → arguments c.tables (env_of c locals) xs ps result ≡ Ok ty → ArgumentTypes locals xs ps
  unfolding type_of
  from_arguments locals PNoExpr [] result ty e h = ([], tt, tt)
  from_arguments locals PNoExpr (p ∷ ps) result ty e h = absurd (zero_differs (length ps) e)
  from_arguments locals (PExpr x xs) [] result ty e h = absurd (zero_differs (count_of xs) (omega (arith, e)))
  from_arguments locals (PExpr x xs) (p ∷ ps) result ty e h =
      let rest : Result PlainTy RuleFault = arguments c.tables (env_of c locals) xs ps result in
      let a : (t : PlainTy) × (type_at c locals (Some p.ty) x ≡ Ok t) × (fits t p.ty (place_of x) rest ≡ Ok ty) = found_ok (type_at c locals (Some p.ty) x) (λ t. fits t p.ty (place_of x) rest) ty h in
      let b : (assignable a.0 p.ty ≡ true) × (rest ≡ Ok ty) = passes_ok (assignable a.0 p.ty) Mismatch (place_of x) rest ty a.2 in
      let more : ArgumentTypes locals xs ps = from_arguments locals xs ps result ty (omega (arith, e)) b.1 in
      (a.0 ∷ more.0, (a.1, more.1), (b.0, more.2))

  pub to_arguments : (locals : List PlainLocal) (ts : List PlainTy) (xs : PlainExprs) (ps : List PlainSigParam) (result : PlainTy) → TypedEach (by_params ps) ts locals xs → SuitParams ts ps → arguments c.tables (env_of c locals) xs ps result ≡ Ok result
  unfolding type_of
  to_arguments locals [] PNoExpr ps result h s = refl
  to_arguments locals [] (PExpr x xs) ps result h s = absurd h
  to_arguments locals (t ∷ ts) PNoExpr ps result h s = absurd h
  to_arguments locals (t ∷ ts) (PExpr x xs) [] result h s = absurd s
  to_arguments locals (t ∷ ts) (PExpr x xs) (p ∷ ps) result h s =
      let rest : Result PlainTy RuleFault = arguments c.tables (env_of c locals) xs ps result in
      ap (λ r. with_found r (λ t. fits t p.ty (place_of x) rest)) h.0 ∙ ap (λ b. refuse_if (not b) Mismatch (place_of x) rest) s.0 ∙ to_arguments locals ts xs ps result h.1 s.1

  -- Operands of functions

  abbrev pub OperandTypes : (PlainTy → Bool) → List PlainLocal → PlainExprs → Type 0
  OperandTypes test locals xs = (ts : List PlainTy) × TypedEach [] ts locals xs × AreOperands test ts

  pub from_each : (test : PlainTy → Bool) (locals : List PlainLocal) (xs : PlainExprs) (result ty : PlainTy) → each_is test c.tables (env_of c locals) xs result ≡ Ok ty → OperandTypes test locals xs
  unfolding type_of
  from_each test locals PNoExpr result ty h = ([], tt, tt)
  from_each test locals (PExpr x xs) result ty h =
      let rest : Result PlainTy RuleFault = each_is test c.tables (env_of c locals) xs result in
      let a : (t : PlainTy) × (type_at c locals None x ≡ Ok t) × (operand t test (place_of x) rest ≡ Ok ty) = found_ok (type_at c locals None x) (λ t. operand t test (place_of x) rest) ty h in
      let n : (has_none a.0 ≡ false) × (refuse_if (not (test a.0)) Operand (place_of x) rest ≡ Ok ty) = refuse_ok (has_none a.0) NoneUse (place_of x) (refuse_if (not (test a.0)) Operand (place_of x) rest) ty a.2 in
      let b : (test a.0 ≡ true) × (rest ≡ Ok ty) = passes_ok (test a.0) Operand (place_of x) rest ty n.1 in
      let more : OperandTypes test locals xs = from_each test locals xs result ty b.1 in
      (a.0 ∷ more.0, (a.1, more.1), (n.0, b.0, more.2))

  pub to_each : (test : PlainTy → Bool) (locals : List PlainLocal) (ts : List PlainTy) (xs : PlainExprs) (result : PlainTy) → TypedEach [] ts locals xs → AreOperands test ts → each_is test c.tables (env_of c locals) xs result ≡ Ok result
  unfolding type_of
  to_each test locals [] PNoExpr result h s = refl
  to_each test locals [] (PExpr x xs) result h s = absurd h
  to_each test locals (t ∷ ts) PNoExpr result h s = absurd h
  to_each test locals (t ∷ ts) (PExpr x xs) result h s =
      let rest : Result PlainTy RuleFault = each_is test c.tables (env_of c locals) xs result in
      ap (λ r. with_found r (λ t. operand t test (place_of x) rest)) h.0
      ∙ ap (λ b. refuse_if b NoneUse (place_of x) (refuse_if (not (test t)) Operand (place_of x) rest)) s.0
      ∙ ap (λ b. refuse_if (not b) Operand (place_of x) rest) s.1 ∙ to_each test locals ts xs result h.1 s.2

  -- Elements

  abbrev pub ElementTypes : PlainTy → List PlainLocal → PlainExprs → Type 0
  ElementTypes element locals xs = (ts : List PlainTy) × TypedEach (each_wanted (Some element) xs) ts locals xs × SuitElement element ts

  pub from_elements : (element : PlainTy) (locals : List PlainLocal) (xs : PlainExprs) (ty : PlainTy) → elements c.tables (env_of c locals) element xs ≡ Ok ty → ElementTypes element locals xs
  unfolding type_of each_wanted
  from_elements element locals PNoExpr ty h = ([], tt, tt)
  from_elements element locals (PExpr x xs) ty h =
      let rest : Result PlainTy RuleFault = elements c.tables (env_of c locals) element xs in
      let a : (t : PlainTy) × (type_at c locals (Some element) x ≡ Ok t) × (fits t element (place_of x) rest ≡ Ok ty) = found_ok (type_at c locals (Some element) x) (λ t. fits t element (place_of x) rest) ty h in
      let b : (assignable a.0 element ≡ true) × (rest ≡ Ok ty) = passes_ok (assignable a.0 element) Mismatch (place_of x) rest ty a.2 in
      let more : ElementTypes element locals xs = from_elements element locals xs ty b.1 in
      (a.0 ∷ more.0, (a.1, more.1), (b.0, more.2))

  -- of other expressions of the types that these have
  pub to_elements : (element : PlainTy) (locals : List PlainLocal) (source : PlainExprs) (ts : List PlainTy) (xs : PlainExprs) → count_of source ≡ length ts → TypedEach (each_wanted (Some element) source) ts locals xs → SuitElement element ts → elements c.tables (env_of c locals) element xs ≡ Ok (TList element)
  unfolding type_of each_wanted
  to_elements element locals source [] PNoExpr e h s = refl
  to_elements element locals source [] (PExpr x xs) e h s = absurd h
  to_elements element locals source (t ∷ ts) PNoExpr e h s = absurd h
  to_elements element locals PNoExpr (t ∷ ts) (PExpr x xs) e h s = absurd (zero_differs (length ts) e)
  to_elements element locals (PExpr y ys) (t ∷ ts) (PExpr x xs) e h s =
      let rest : Result PlainTy RuleFault = elements c.tables (env_of c locals) element xs in
      ap (λ r. with_found r (λ t. fits t element (place_of x) rest)) h.0 ∙ ap (λ b. refuse_if (not b) Mismatch (place_of x) rest) s.0
      ∙ to_elements element locals ys ts xs (omega (arith, e)) h.1 s.1
