-- Cores that batches make, one after another.
use Rattle.std.proofs.Common.{◌≡◌, List, [], ◌∷◌, ◌++◌, length, take, sym, ap, ◌∙◌, subst, arith}
use Rattle.std.proofs.lemmas.List.{take_all, take-take, take_at, length-append}
use Rattle.sf_value.specs.declared.BatchRecord.{BatchRecord}
use Rattle.recovery.specs.declared.opened.Placed.{Placed}
use Rattle.recovery.specs.StoreImage.{batches_of}
use Rattle.engine.specs.Cores.{Core}
use Rattle.engine.specs.Replays.{listed, serial_entries, replayed, BatchFits}
use Rattle.store_meaning.specs.StandsFor.{Program, tables_of, Replays}

module _ (p : Program) where
  -- one batch more
  pub replays_more : (core : Core) (batches : List BatchRecord) (middle : Core) (batch : BatchRecord) → Replays p core batches middle → BatchFits (tables_of p) middle batch
      → Replays p core (batches ++ batch ∷ []) (replayed p.source middle batch)
  replays_more core [] middle batch so_far fits = (subst (λ c. BatchFits (tables_of p) c batch) so_far fits, ap (λ c. replayed p.source c batch) so_far)
  replays_more core (first ∷ batches) middle batch so_far fits = (so_far.0, replays_more (replayed p.source core first) batches middle batch so_far.1 fits)

  -- they leave the history that was there, and go on behind it
  pub replays_grow : (core : Core) (batches : List BatchRecord) (last : Core) → Replays p core batches last → take (length core.history) last.history ≡ core.history
  replays_grow core [] last same = ap (λ (c : Core). take (length core.history) c.history) same ∙ take_all (length core.history) core.history (omega arith)
  replays_grow core (batch ∷ batches) last replays =
      let n = length core.history in
      let new = serial_entries p.source core.state (listed core batch) in
      let later = replays_grow (replayed p.source core batch) batches last replays.1 in
      sym (take-take n (length (core.history ++ new)) last.history (omega (arith, length-append core.history new))) ∙ ap (take n) later ∙ take_at core.history new n (omega arith)

  -- they make one core
  pub one_replay : (core : Core) (batches : List BatchRecord) (last other : Core) → Replays p core batches last → Replays p core batches other → last ≡ other
  one_replay core [] last other a b = a ∙ sym b
  one_replay core (batch ∷ batches) last other a b = one_replay (replayed p.source core batch) batches last other a.1 b.1

  -- and none where one of them can't follow
  pub no_replay : (core : Core) (before : List BatchRecord) (batch : BatchRecord) (after : List BatchRecord) (middle last : Core) → Replays p core before middle → (BatchFits (tables_of p) middle batch → ⊥)
      → Replays p core (before ++ batch ∷ after) last → ⊥
  no_replay core [] batch after middle last so_far wrong all = wrong (subst (λ c. BatchFits (tables_of p) c batch) (sym so_far) all.0)
  no_replay core (first ∷ before) batch after middle last so_far wrong all = no_replay (replayed p.source core first) before batch after middle last so_far.1 wrong all.1

  -- the first that can't is one
  pub one_wrong : (core : Core) (before : List Placed) (batch : Placed) (after others : List Placed) (other : Placed) (rest : List Placed) (middle place : Core) → before ++ batch ∷ after ≡ others ++ other ∷ rest
      → Replays p core (batches_of before) middle → (BatchFits (tables_of p) middle batch.batch → ⊥) → Replays p core (batches_of others) place → (BatchFits (tables_of p) place other.batch → ⊥) → batch ≡ other
  one_wrong core [] batch after [] other rest middle place same so_far wrong there bad = cc
  one_wrong core [] batch after (x ∷ others) other rest middle place same so_far wrong there bad =
      let first : x ≡ batch = cc in
      absurd (wrong (subst (λ c. BatchFits (tables_of p) c batch.batch) (sym so_far) (subst (λ b. BatchFits (tables_of p) core b.batch) first there.0)))
  one_wrong core (x ∷ before) batch after [] other rest middle place same so_far wrong there bad =
      let first : x ≡ other = cc in
      absurd (bad (subst (λ c. BatchFits (tables_of p) c other.batch) (sym there) (subst (λ b. BatchFits (tables_of p) core b.batch) first so_far.0)))
  one_wrong core (x ∷ before) batch after (y ∷ others) other rest middle place same so_far wrong there bad =
      let first : y ≡ x = cc in
      let tails : before ++ batch ∷ after ≡ others ++ other ∷ rest = cc in
      one_wrong (replayed p.source core x.batch) before batch after others other rest middle place tails so_far.1 wrong
      (subst (λ b. Replays p (replayed p.source core b.batch) (batches_of others) place) first there.1) bad
