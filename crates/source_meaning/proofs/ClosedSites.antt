-- The interpreter's site where no call may be open.
use Rattle.std.proofs.Common.{◌≡◌, ℕ, List, Option, sym, ap, ◌∙◌}
use Rattle.py_tree.specs.PlainExpressions.{PlainExpr}
use Rattle.sf_value.specs.Keys.{key_of}
use Rattle.program_meaning.specs.declared.vars.Var.{Var}
use Rattle.program_meaning.specs.World.{World, record_at}
use Rattle.source_meaning.specs.declared.site.Room.TheVariants as room
use Rattle.source_meaning.specs.declared.site.Site.{Site}
use Rattle.program_meaning.specs.Evaluation.{eval}
use Rattle.source_meaning.specs.Sites.{site_of, calls_of}
use Rattle.source_meaning.specs.Walks.{program_of}
use Rattle.program_meaning.specs.Execution.{message}
use Rattle.program_meaning.specs.Calls.{making, own_at}
use Rattle.program_meaning.proofs.ViewLaws.{viewed}
use Rattle.program_meaning.proofs.DeclareLaws.{apart, making_eval, making_message}

-- where no call may be open, the interpreter's site is that of a record that is made
module _ (site : Site) (closed : site.room ≡ room.Closed) (vars : List Var) (w : World) (n : ℕ) where
  site_apart : apart (program_of site) (key_of site.me.now) ≡ site_of site
  site_apart = ap (λ r. record { src = program_of site; own = own_at (key_of site.me.now); calls = calls_of (program_of site) (key_of site.me.now) r; me = key_of site.me.now }) (sym closed)

  pub made_eval : (e : PlainExpr) → eval (making (program_of site) (key_of site.me.now)) e vars (record_at w (key_of site.me.now)) n ≡ viewed (λ w. record_at w (key_of site.me.now)) (eval (site_of site) e vars w n)
  made_eval e = making_eval (program_of site) (key_of site.me.now) e vars w n ∙ ap (λ s. viewed (λ w. record_at w (key_of site.me.now)) (eval s e vars w n)) site_apart

  pub made_message : (e : Option PlainExpr) → message (making (program_of site) (key_of site.me.now)) e vars (record_at w (key_of site.me.now)) n ≡ viewed (λ w. record_at w (key_of site.me.now)) (message (site_of site) e vars w n)
  made_message e = making_message (program_of site) (key_of site.me.now) e vars w n ∙ ap (λ s. viewed (λ w. record_at w (key_of site.me.now)) (message s e vars w n)) site_apart
