-- What the error stream gained by a line that could not be written.
use Rattle.std.proofs.Common.{◌≡◌, ℕ, ◌≤◌, ◌⊎◌, inl, inr, true, false, ◌==◌, List, Ok, Err, OnOk, OnErr, refl, subst, arith}
use Rattle.std.proofs.KnownBytes.{Appends-kept, Appends-nil}
use Rattle.std.specs.declared.option.Option.{Option}
use Rattle.std.specs.declared.result.Result.{Result}
use Rattle.std.specs.Io.KnownBytes.{Appends, Keeps}
use Rattle.sf_outside.specs.Bytes.{AppendsPrefix}
use Rattle.sf_outside.specs.Causes.{HasCause, Rose}
use Rattle.batch_run.proofs.Vocabulary.{prefix_whole}
use Rattle.stateflow_cli.specs.StatusLines.{write_fault_line}
use Rattle.stateflow_cli.specs.Telling.{Told, Whole, Part}

-- what is kept after a line was written whole is a prefix of it
pub prefix_kept : (a b c : Option (List ℕ)) (xs : List ℕ) → Appends a b xs → Keeps b c → AppendsPrefix a c xs
prefix_kept a b c xs p k = prefix_whole a c xs (Appends-kept a b c xs p k)

-- a write was whole, or a prefix was written and a fault counted
whole_or_rose : {T E : Type 0} (r : Result T E) (a b : Option (List ℕ)) (xs : List ℕ) (before after : ℕ) → OnOk r (Appends a b xs) → OnErr r (AppendsPrefix a b xs) → OnErr r (Rose before after)
    → Appends a b xs ⊎ (AppendsPrefix a b xs × Rose before after)
whole_or_rose (Ok x) a b xs before after p q r = inl p
whole_or_rose (Err e) a b xs before after p q r = inr (q, r)

chain : (x y z : ℕ) → x ≤ y → y ≤ z → x ≤ z
chain x y z p q = omega (arith, p, q)

-- a count that rose has risen later on
pub Rose-later : (a b c : ℕ) → Rose a b → b ≤ c → Rose a c
Rose-later a b c p q = chain _ b c p q

-- and one that rose later has risen from before
pub Rose-earlier : (a b c : ℕ) → a ≤ b → Rose b c → Rose a c
Rose-earlier a b c p q = omega (arith, p, q)

-- the line failed, and that of a write fault was tried
pub Told-twice : {T E : Type 0} (result : Result T E) (line : List ℕ) (own : ℕ) (a b c : Option (List ℕ)) (before between after : ℕ) → (own == 4) ≡ false → AppendsPrefix a b line → Rose before between
    → OnOk result (Appends b c write_fault_line) → OnErr result (AppendsPrefix b c write_fault_line) → HasCause between after result → Told line own a c before after 4
Told-twice result line own a b c before between after e p r w x cause =
    Part refl (Rose-later before between after r cause.later)
    (record { between = b; met = between; first = (p, r); later = cause.later; second = rw e (whole_or_rose result b c write_fault_line between after w x cause.failed) })

-- the line of a write fault failed, and no other was tried
pub Told-once : (line : List ℕ) (own : ℕ) (a b : Option (List ℕ)) (before after : ℕ) → (own == 4) ≡ true → AppendsPrefix a b line → Rose before after → Told line own a b before after 4
Told-once line own a b before after e p r =
    Part refl r (record { between = b; met = after; first = (p, r); later = omega arith; second = rw e (inl (Appends-nil b)) })

-- what was told behind a moment at which the error stream held what it held before
pub Told-before : (line : List ℕ) (own : ℕ) (a b c : Option (List ℕ)) (before between after status : ℕ) → b ≡ a → before ≤ between → Told line own b c between after status → Told line own a c before after status
Told-before line own a b c before between after status same later (Whole is wrote) = Whole is (subst (λ x. Appends x c line) same wrote)
Told-before line own a b c before between after status same later (Part is rose said) =
    Part is (Rose-earlier before between after later rose) (record {
      between = said.between;
      met = said.met;
      first = (subst (λ x. AppendsPrefix x said.between line) same said.first.0, Rose-earlier before between said.met later said.first.1);
      later = said.later;
      second = said.second;
    })
