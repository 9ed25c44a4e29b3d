-- How far steps came and what they leave in the store, both at once.
use Rattle.std.proofs.Common.{◌≡◌, Bool, List, ◌++◌, Ok, Err, IsErr, refl, subst}
use Rattle.std.specs.declared.option.Option.{Option}
use Rattle.std.specs.declared.result.Result.{Result}
use Rattle.sf_outside.specs.DiskModel.{DiskFacts}
use Rattle.engine.specs.Cores.{Core}
use Rattle.session_steps.specs.Vocabulary.{Stop, Service, StoreSettings}
use Rattle.session_steps.specs.StopVariants.{NoMemory}
use Rattle.session_steps.specs.Steps.{Step}
use Rattle.session_steps.specs.Doings.{Point, Comes, LogsSteps}
use Rattle.session_steps.proofs.Composing.{Comes-then, Comes-cut, Comes-between}
use Rattle.session_steps.proofs.LoggedSteps.{Logged-then, Logged-more}

-- these steps were done, or as far as it went; what is logged behind them, and what each moment since may leave
pub record Reaches (v : Service) (traces : Bool) (settings : Option StoreSettings) {T : Type 0} (r : Result T Stop) (steps : List Step) (old new : Point)
    (first last : Core) (facts facts' : DiskFacts) : Type 0 where
  pub came : Comes v traces r steps old new
  pub logs : LogsSteps v settings old.core old.lines steps first last facts facts'

-- where the service is the same, and the settings of the store are
pub Reaches-by : {T : Type 0} (v v' : Service) (traces : Bool) (settings at : Option StoreSettings) (steps : Service → List Step) (r : Result T Stop) (p q : Point)
    (first last : Core) (f g : DiskFacts) → v' ≡ v → at ≡ settings → Reaches v' traces at r (steps v') p q first last f g
    → Reaches v traces settings r (steps v) p q first last f g
Reaches-by v v' traces settings at steps r p q first last f g same held m =
    subst (λ s. Reaches v traces s r (steps v) p q first last f g) held (subst (λ x. Reaches x traces at r (steps x) p q first last f g) same m)

module _ (v : Service) (traces : Bool) (settings : Option StoreSettings) where
  -- the same steps
  pub Reaches-of : {T : Type 0} (r : Result T Stop) (xs ys : List Step) {p q : Point} {a b : Core} {f g : DiskFacts} → xs ≡ ys
      → Reaches v traces settings r xs p q a b f g → Reaches v traces settings r ys p q a b f g
  Reaches-of r xs ys {p} {q} {a} {b} {f} {g} same m = subst (λ steps. Reaches v traces settings r steps p q a b f g) same m

  -- these, and then those
  pub Reaches-then : {T : Type 0} (r : Result T Stop) (xs ys : List Step) {p q z : Point} {a b c : Core} {f g h : DiskFacts}
      → Reaches v traces settings {T = Unit {0}} (Ok (tt {0})) xs p q a b f g → Reaches v traces settings r ys q z b c g h
      → Reaches v traces settings r (xs ++ ys) p z a c f h
  Reaches-then r xs ys {p} {q} {z} {a} {b} {c} {f} {g} {h} m n = record {
    came = Comes-then v traces r xs ys p q z m.came n.came;
    logs = Logged-then v settings traces xs ys p q a b c f g h m.came m.logs n.logs;
  }

  -- a stop at these is a stop at them and those
  pub Reaches-cut : {T : Type 0} (r : Result T Stop) (xs ys : List Step) {p q : Point} {a b : Core} {f g : DiskFacts} → IsErr r
      → Reaches v traces settings r xs p q a b f g → Reaches v traces settings r (xs ++ ys) p q a b f g
  Reaches-cut r xs ys {p} {q} {a} {b} {f} {g} stopped m = record {
    came = Comes-cut v traces r xs ys p q stopped m.came;
    logs = Logged-more v settings xs ys p.core p.lines a b f g m.logs;
  }

  -- memory was wanted behind these
  pub Reaches-wanted : (xs ys : List Step) {p q : Point} {a b : Core} {f g : DiskFacts}
      → Reaches v traces settings {T = Unit {0}} (Ok (tt {0})) xs p q a b f g → Reaches v traces settings {T = Unit {0}} (Err NoMemory) (xs ++ ys) p q a b f g
  Reaches-wanted xs ys {p} {q} {a} {b} {f} {g} m = record {
    came = Comes-then v traces {T = Unit {0}} (Err NoMemory) xs ys p q q m.came (Comes-between v traces {T = Unit {0}} (Err NoMemory) ys q q refl refl);
    logs = Logged-more v settings xs ys p.core p.lines a b f g m.logs;
  }
