-- What a disk keeps of a store, from one call of a session to the next.
use Rattle.std.proofs.Common.{◌≡◌, ℕ, Bool, true, false, List, inl, inr, Some, None, sym, ap, ◌∙◌, subst, ◌⊎◌}
use Rattle.std.specs.declared.option.Option.{Option}
use Rattle.sf_outside.specs.DiskModel.{DiskFacts}
use Rattle.sf_outside.proofs.DiskLaws.{left_now}
use Rattle.sf_value.specs.declared.BatchRecord.{BatchRecord}
use Rattle.program_meaning.specs.ClassTables.{Source}
use Rattle.quiet_methods.specs.MarksKeepWithin.{source}
use Rattle.serial_order.specs.ConflictFree.{Access}
use Rattle.reservations.specs.CommitRules.{Chosen}
use Rattle.block_step.specs.CompiledViews.{compiled_program, compiled_names}
use Rattle.store_meaning.specs.Vocabulary.{Engine, Core, core_of, source_of, compiled_of, limit_of, fresh_of, RunsProgram, accesses_on, settled}
use Rattle.store_meaning.specs.Engines.{logged_of}
use Rattle.store_meaning.proofs.Arrivals.{none_unlogged}
use Rattle.storable_cores.specs.Storable.{news_of}
use Rattle.session_store.specs.declared.store.Store.{Store}
use Rattle.session_store.specs.Endings.{KeepsWhere, LeavesMeanwhile}
use Rattle.session_store.specs.Stores.{program_with, Keeps, StandsSomewhere, LeavesEither, next_record, RecordEndsPast, EndsPast}

-- ---- of the same core

pub keeps_same : (store : Option Store) (src now : Source) (core next : Core) (facts : DiskFacts) → src ≡ now → core ≡ next → Keeps store src core facts → Keeps store now next facts
keeps_same store src now core next facts source same kept = subst (λ c. Keeps store now c facts) same (subst (λ s. Keeps store s core facts) source kept)

pub leaves_same : (store : Option Store) (src now : Source) (core after next last : Core) (facts : DiskFacts) → src ≡ now → core ≡ after → next ≡ last
    → LeavesEither store src core next facts → LeavesEither store now after last facts
leaves_same store src now core after next last facts source same both left =
    subst (λ c. LeavesEither store now after c facts) both (subst (λ c. LeavesEither store now c next facts) same (subst (λ s. LeavesEither store s core next facts) source left))

-- what each image stands for is one of two cores too
pub leaves_more : (store : Option Store) (src : Source) (core next : Core) (facts : DiskFacts) → LeavesEither store src core core facts → LeavesEither store src core next facts
leaves_more None src core next facts left = left
leaves_more (Some store) src core next facts left = record { each = λ image leaves. elim (left.each image leaves) [ inl here ↦ inl here | inr also ↦ inl also ] }

-- what holds at each moment holds at the last one
pub leaves_now : (store : Store) (src : Source) (core next : Core) (old new : DiskFacts) → LeavesMeanwhile (Some store) src core next old new → LeavesEither (Some store) src core next new
leaves_now store src core next old new moments = record {
  each = left_now old new (λ image. StandsSomewhere (program_with store src) image core ⊎ StandsSomewhere (program_with store src) image next) moments;
}

-- ---- whether the disk failed

module _ (failed : Bool) (store : Option Store) (src : Source) (core next : Core) (facts : DiskFacts) where
  pub where_kept : failed ≡ false → Keeps store src core facts → KeepsWhere failed store src core next facts
  where_kept is kept = subst (λ f. KeepsWhere f store src core next facts) (sym is) kept

  pub where_left : failed ≡ true → LeavesEither store src core next facts → KeepsWhere failed store src core next facts
  where_left is left = subst (λ f. KeepsWhere f store src core next facts) (sym is) left

  pub kept_there : failed ≡ false → KeepsWhere failed store src core next facts → Keeps store src core facts
  kept_there is kept = subst (λ f. KeepsWhere f store src core next facts) is kept

  pub left_there : failed ≡ true → KeepsWhere failed store src core next facts → LeavesEither store src core next facts
  left_there is left = subst (λ f. KeepsWhere f store src core next facts) is left

-- ---- engines

-- to which no request came since its last batch
pub all_logged : (e : Engine) → fresh_of e ≡ 0 → logged_of e ≡ core_of e
all_logged e none = ap (settled (core_of e)) none ∙ none_unlogged (core_of e)

module _ (e now : Engine) (runs : RunsProgram now (compiled_of e) (limit_of e)) where
  -- another engine of the same program
  pub same_source : source_of e ≡ source_of now
  same_source = ap (λ compiled. source (compiled_names compiled) (compiled_program compiled)) (sym runs.compiled_is)

  -- that has the same core
  pub keeps_engine : (store : Option Store) (facts : DiskFacts) → core_of now ≡ core_of e → fresh_of now ≡ fresh_of e → Keeps store (source_of e) (logged_of e) facts
      → Keeps store (source_of now) (logged_of now) facts
  keeps_engine store facts core fresh = keeps_same store (source_of e) (source_of now) (logged_of e) (logged_of now) facts same_source (λ i. settled (sym core i) (sym fresh i))

  -- that has committed a batch
  pub keeps_after : (store : Option Store) (facts : DiskFacts) (after : Core) → core_of now ≡ after → fresh_of now ≡ 0 → Keeps store (source_of e) after facts
      → Keeps store (source_of now) (logged_of now) facts
  keeps_after store facts after core none = keeps_same store (source_of e) (source_of now) after (logged_of now) facts same_source (sym (all_logged now none ∙ core))

-- ---- what ends past the place where a file may end

module _ (rule : List Access → Chosen) (store : Option Store) (src : Source) (core : Core) (fresh : ℕ) (facts : DiskFacts) where
  pub record_ends : (batch : BatchRecord) → batch.news ≡ news_of core fresh → batch.committed ≡ (rule (accesses_on src core)).committed → RecordEndsPast store batch
      → Keeps store src (settled core fresh) facts → EndsPast rule store src core fresh facts
  record_ends batch news committed past kept = (inl (subst (RecordEndsPast store) same past), kept)
    where
      same : batch ≡ next_record rule src core fresh
      same = λ i. record { news = news i; committed = committed i }
