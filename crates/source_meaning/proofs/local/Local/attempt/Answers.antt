use Rattle.std.proofs.Common.{◌≡◌, ◌∙◌, sym, ap, subst, IfOk}
use Rattle.sf_value.specs.declared.Outcome.TheVariants as outcome
use Rattle.program_meaning.specs.RequestRun.{begin, ended}
use Rattle.few_entities.specs.Entries.{refs_of}
use Rattle.source_meaning.specs.Agrees.{FallsIn}
use Rattle.source_meaning.specs.Attempts.{ran_of}
use Rattle.program_meaning.specs.Sources.{source_of}
use Rattle.source_meaning.specs.Transactions.{world_of, with_records, keys_of, entities_of}
use Rattle.program_meaning.proofs.RunLaws.{run_heavy, run_light}
use Rattle.source_meaning.proofs.local.Local.attempt.Goals as goal

pub returns-then-is_heavy : goal.returns-then-is_heavy
returns-then-is_heavy c = subst (λ ran. IfOk c.too_heavy.result (λ made. ran_of c.args.self.now made ≡ ran)) (sym (run_heavy (source_of c.args.program.now) c.args.self.now c.args.asked.now (sym c.is_heavy.ensures ∙ c.if-is_heavy.true))) (c.too_heavy.ensures c.args.self.now)

pub first_call-given-requires-clause-fresh : goal.first_call-given-requires-clause-fresh
first_call-given-requires-clause-fresh c = c.begin.ensures c.args.self.now

pub returns-in-Ok : goal.returns-in-Ok
returns-in-Ok c = sym (run_light (source_of c.args.program.now) c.args.self.now c.args.asked.now (sym c.is_heavy.ensures ∙ c.if-is_heavy.false) ∙ ap (ended c.args.self.now) c.in-Ok.ensures)

pub returns-in-Err-Failed : goal.returns-in-Err-Failed
returns-in-Err-Failed c =
    (λ i. record { outcome = outcome.Failed c.in-Err-Failed.failure; state = with_records c.args.self.now (c.new.ensures i); reads = keys_of (refs_of c.first_call-given.new.run.tx.read); writes = keys_of (entities_of (c.new.ensures i)); steps = c.first_call-given.new.run.steps })
    ∙ sym (run_light (source_of c.args.program.now) c.args.self.now c.args.asked.now (sym c.is_heavy.ensures ∙ c.if-is_heavy.false) ∙ ap (ended c.args.self.now) (subst (λ stop. FallsIn stop (world_of c.args.self.now c.first_call-given.new.run.tx) c.first_call-given.new.run.steps (begin (source_of c.args.program.now) c.args.asked.now c.args.self.now)) c.in-Err-Failed.field-0-is c.in-Err-Failed.ensures))
