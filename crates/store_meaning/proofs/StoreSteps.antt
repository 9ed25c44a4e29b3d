-- What a store stands for behind the record of a batch, and behind a checkpoint.
use Rattle.std.proofs.Common.{◌≡◌, ℕ, ◌+◌, ◌≤◌, inl, inr, List, [], ◌∷◌, ◌++◌, length, take, refl, sym, ap, ◌∙◌, subst, arith, length-append}
use Rattle.sf_bytes.specs.Entries.{HistoryIs}
use Rattle.sf_outside.specs.DiskModel.{Image}
use Rattle.sf_value.specs.Heads.{snapshot_of}
use Rattle.sf_value.specs.declared.Entry.{Entry}
use Rattle.snapshot_store.specs.SlotSteps.{KeepsFront, IsKept}
use Rattle.recovery.specs.StoreSteps.{HoldsBatches, AddsTo}
use Rattle.recovery.proofs.StoreSteps.{record_adds, gate_adds_none, checkpoint_begins, checkpoint_keeps, snapshot_had}
use Rattle.engine.specs.Cores.{Core}
use Rattle.engine.specs.Kept.{core_of_snapshot}
use Rattle.store_meaning.specs.declared.position.Position.{Position}
use Rattle.store_meaning.specs.StandsFor.{Program, OldStandsFor, StandsFor}
use Rattle.store_meaning.specs.LoggedBatches.{BatchStands, ClosedGateStands}
use Rattle.store_meaning.specs.Checkpoints.{IsCheckpointOf, next_of, CheckpointStands, CheckpointStays}
use Rattle.store_meaning.proofs.Replaying.{replays_more, replays_grow}

-- a store with an epoch is old
pub is_old : (p : Program) (image : Image) (core : Core) (position : Position) → StandsFor p image core position → 1 ≤ position.epoch → OldStandsFor p image core position
is_old p image core position (inl a) began = let none : position.epoch ≡ 0 = ap (λ (x : Position). x.epoch) a.2 in absurd (omega (arith, began, none))
is_old p image core position (inr a) began = a

pub batch_stands : BatchStands
batch_stands p before now core position body batch stands began follows steps =
    let old = is_old p before core position stands began in
    inr (record {
      kept = old.kept;
      batches = old.batches ++ batch ∷ [];
      holds = record_adds before now position.epoch old.kept position.bytes old.batches position.at body batch old.holds follows.spells steps;
      count = old.count;
      eras = old.eras;
      fits = old.fits;
      replays = replays_more p (core_of_snapshot old.kept) old.batches core batch old.replays follows.fits;
    })

pub closed_gate_stands : ClosedGateStands
closed_gate_stands p before now core position stands began steps =
    let old = is_old p before core position stands began in
    inr (record {
      kept = old.kept;
      batches = old.batches;
      holds = gate_adds_none before now position.epoch old.kept position.bytes old.batches position.at old.holds steps;
      count = old.count;
      eras = old.eras;
      fits = old.fits;
      replays = old.replays;
    })

-- ---- a checkpoint

-- behind entries that an image has in its history up to the place of the position
module _ (q : Program) (before now : Image) (old core : Core) (position : Position) (more body : List ℕ) (is : IsCheckpointOf q old position core more body) where
  behind_entries : (entries : List Entry) → HistoryIs before.hist (length entries) position.bytes entries → take position.kept old.history ≡ entries
      → IsKept (position.epoch + 1) position.bytes more body now → KeepsFront position.bytes before.hist now.hist
      → OldStandsFor q now core (next_of position (length more) (length core.history))
  behind_entries entries had same done front =
      let whole : core.history ≡ entries ++ is.added = is.history ∙ ap (λ es. es ++ is.added) same in
      let adds : AddsTo before now position.bytes more entries is.added is.head = record {
        had = had;
        front = front;
        spells = is.spells;
        kept = is.is_head.kept ∙ ap length whole ∙ length-append entries is.added;
        bytes = is.is_head.named;
      } in
      let holds = checkpoint_begins before now (position.epoch + 1) position.bytes more body entries is.added is.head is.is_head.spells done adds in
      record {
        kept = snapshot_of is.head core.history;
        batches = [];
        holds = subst (λ es. HoldsBatches now (position.epoch + 1) (snapshot_of is.head es) (position.bytes + length more) [] 0) (sym whole) holds;
        count = refl;
        eras = is.is_head.eras;
        fits = is.is_head.fits;
        replays = sym is.is_head.holds;
      }

pub checkpoint_stands : CheckpointStands
checkpoint_stands p q before now old core position more body (inl a) is done front =
    let bytes : position.bytes ≡ 0 = ap (λ (x : Position). x.bytes) a.2 in
    let none : HistoryIs before.hist 0 position.bytes [] = record { stand = sym bytes; count = refl } in
    inr (behind_entries q before now old core position more body is [] none (ap (λ (x : Position). take x.kept old.history) a.2) done front)
checkpoint_stands p q before now old core position more body (inr a) is done front =
    let same : take position.kept old.history ≡ a.kept.history =
    ap (λ n. take n old.history) a.count ∙ replays_grow p (core_of_snapshot a.kept) a.batches old a.replays in
    inr (behind_entries q before now old core position more body is a.kept.history (snapshot_had before position.epoch a.kept position.bytes a.holds.newest) same done front)

pub checkpoint_stays : CheckpointStays
checkpoint_stays p before now core position (inl a) keeps = inl (keeps.is_new a.0, a.1, a.2)
checkpoint_stays p before now core position (inr a) keeps = inr (record {
  kept = a.kept;
  batches = a.batches;
  holds = checkpoint_keeps before now position.epoch a.kept position.bytes a.batches position.at a.holds keeps;
  count = a.count;
  eras = a.eras;
  fits = a.fits;
  replays = a.replays;
})
