-- The record of one entity, seen in the world of a transaction that holds this entity alone.
use Rattle.std.proofs.Common.{◌≡◌, ◌∙◌, ℕ, Bool, true, false, true≢false, ◌||◌, cond, List, [], Some, refl, sym, ap}
use Rattle.std.specs.Prelude.{unwrap_or}
use Rattle.std.specs.FinMap as map
use Rattle.std.specs.FinSet as set
use Rattle.std.specs.Cmp.{eq_by_cmp_equiv}
use Rattle.py_tree.specs.PlainExpressions.{PlainExpr}
use Rattle.py_tree.specs.PlainStatements.{PlainStmts}
use Rattle.sf_value.specs.Keys.{Key, key_cmp}
use Rattle.sf_value.specs.declared.value.Value.{Value}
use Rattle.sf_value.proofs.Maps.{key_total}
use Rattle.program_meaning.specs.declared.vars.Var.{Var}
use Rattle.program_meaning.specs.ClassTables.{Source}
use Rattle.program_meaning.specs.World.{World, Own, Gives, Got, Fell, Ends, Goes, Returns, Breaks, Continues, Fails, record_at, writing}
use Rattle.program_meaning.specs.Evaluation.{Site, eval}
use Rattle.program_meaning.specs.Execution.{act_all}
use Rattle.program_meaning.specs.Calls.{Held, own_held, own_at, calls_within, on_record}
use Rattle.program_meaning.specs.RequestRun.{at_first}
use Rattle.program_meaning.specs.Serial.{no_state}
use Rattle.program_meaning.proofs.ViewLaws.{viewed, viewed_end, eval_within, acts_within}
use Rattle.program_meaning.proofs.DeclareLaws.{record_written}

-- the worlds that a part ends in
abbrev pub world_in : {W A : Type 0} → Gives W A → W
world_in (Got x w n) = w
world_in (Fell e w n) = w

abbrev pub end_world : {W : Type 0} → Ends W → W
end_world (Goes vars w n) = w
end_world (Returns v w n) = w
end_world (Breaks vars w n) = w
end_world (Continues vars w n) = w
end_world (Fails e vars w n) = w

world_viewed : {V W A : Type 0} (f : W → V) (g : Gives W A) → world_in (viewed f g) ≡ f (world_in g)
world_viewed f (Got x w n) = refl
world_viewed f (Fell e w n) = refl

end_viewed : {V W : Type 0} (f : W → V) (e : Ends W) → end_world (viewed_end f e) ≡ f (end_world e)
end_viewed f (Goes vars w n) = refl
end_viewed f (Returns v w n) = refl
end_viewed f (Breaks vars w n) = refl
end_viewed f (Continues vars w n) = refl
end_viewed f (Fails e vars w n) = refl

or_true : (b : Bool) → (b || true) ≡ true
or_true true = refl
or_true false = refl

or_false : (b : Bool) → (b || false) ≡ b
or_false true = refl
or_false false = refl

-- the entity is among those written
wrote_it : (w : World) (me : Key) (fields : List Value) → set.contains (writing w me fields).writes me ≡ true
wrote_it w me fields = set.contains-insert key_total w.writes me me ∙ ap (λ b. b || set.contains w.writes me) ((eq_by_cmp_equiv key_total).refl me)

-- the record of an entity in a world, and whether it was assigned, here or before
abbrev pub held_in : Key → Bool → World → Held
held_in me before w = record { fields = record_at w me; wrote = before || set.contains w.writes me }

-- the state of one entity alone
abbrev pub alone : Key → List Value → World
alone me fields = at_first (map.insert no_state me fields)

-- the entity's code, where its calls reach its own methods alone
abbrev pub within : Source → Key → ℕ → Site World
within src me d = record { src = src; own = own_at me; calls = calls_within (own_at me) src me d; me = me }

pub alone_record : (me : Key) (fields : List Value) → map.get (map.insert no_state me fields) me ≡ Some fields
alone_record me fields = map.get-insert key_total no_state me fields me ∙ ap (λ b. cond b (Some fields) (map.get no_state me)) ((eq_by_cmp_equiv key_total).refl me)

held_first : (me : Key) (before : Bool) (fields : List Value) → held_in me before (alone me fields) ≡ record { fields = fields; wrote = before }
held_first me before fields = λ i. record { fields = unwrap_or (alone_record me fields i) []; wrote = (ap (λ b. before || b) (set.contains-empty key_cmp me) ∙ or_false before) i }

put_held : (me : Key) (before : Bool) (w : World) (fields : List Value) → own_held.put (held_in me before w) fields ≡ held_in me before ((own_at me).put w fields)
put_held me before w fields = sym (λ i. record { fields = record_written w me fields i; wrote = (ap (λ b. before || b) (wrote_it w me fields) ∙ or_true before) i })

module _ (src : Source) (me : Key) (d : ℕ) (before : Bool) (fields : List Value) where
  pub eval_held : (e : PlainExpr) (vars : List Var) (n : ℕ) → eval (on_record src me d) e vars (record { fields = fields; wrote = before }) n ≡ viewed (held_in me before) (eval (within src me d) e vars (alone me fields) n)
  eval_held e vars n =
      ap (λ h. eval (on_record src me d) e vars h n) (sym (held_first me before fields))
      ∙ eval_within (held_in me before) src me (own_at me) own_held (λ w. refl) (put_held me before) d e vars (alone me fields) n

  pub acts_held : (xs : PlainStmts) (vars : List Var) (n : ℕ) → act_all (on_record src me d) xs vars (record { fields = fields; wrote = before }) n ≡ viewed_end (held_in me before) (act_all (within src me d) xs vars (alone me fields) n)
  acts_held xs vars n =
      ap (λ h. act_all (on_record src me d) xs vars h n) (sym (held_first me before fields))
      ∙ acts_within (held_in me before) src me (own_at me) own_held (λ w. refl) (put_held me before) d xs vars (alone me fields) n

-- a world that has this record until the entity is written
record Kept (me : Key) (fields : List Value) : Type 0 where
  world : World
  kept : set.contains world.writes me ≡ false → record_at world me ≡ fields

module _ (src : Source) (me : Key) (d : ℕ) (fields : List Value) where
  abbrev own_kept : Own (Kept me fields)
  own_kept = record {
    fields = λ k. record_at k.world me;
    put = λ k new. record { world = writing k.world me new; kept = λ unwritten. absurd (true≢false (sym (wrote_it k.world me new) ∙ unwritten)) };
  }

  abbrev first_kept : Kept me fields
  first_kept = record { world = alone me fields; kept = λ unwritten. ap (λ o. unwrap_or o []) (alone_record me fields) }

  is_kept : (k : Kept me fields) (w : World) → w ≡ k.world → set.contains w.writes me ≡ false → record_at w me ≡ fields
  is_kept k w same unwritten = ap (λ w. record_at w me) same ∙ k.kept (sym (ap (λ w. set.contains w.writes me) same) ∙ unwritten)

  pub eval_keeps : (e : PlainExpr) (vars : List Var) (n : ℕ) (w : World) → w ≡ world_in (eval (within src me d) e vars (alone me fields) n) → set.contains w.writes me ≡ false → record_at w me ≡ fields
  eval_keeps e vars n w is =
      let g : Gives (Kept me fields) Value = eval (record { src = src; own = own_kept; calls = calls_within own_kept src me d; me = me }) e vars first_kept n in
      is_kept (world_in g) w (is ∙ ap world_in (eval_within (λ k. k.world) src me own_kept (own_at me) (λ k. refl) (λ k new. refl) d e vars first_kept n) ∙ world_viewed (λ k. k.world) g)

  pub acts_keep : (xs : PlainStmts) (vars : List Var) (n : ℕ) (w : World) → w ≡ end_world (act_all (within src me d) xs vars (alone me fields) n) → set.contains w.writes me ≡ false → record_at w me ≡ fields
  acts_keep xs vars n w is =
      let e : Ends (Kept me fields) = act_all (record { src = src; own = own_kept; calls = calls_within own_kept src me d; me = me }) xs vars first_kept n in
      is_kept (end_world e) w (is ∙ ap end_world (acts_within (λ k. k.world) src me own_kept (own_at me) (λ k. refl) (λ k new. refl) d xs vars first_kept n) ∙ end_viewed (λ k. k.world) e)
