-- A loop that goes by the next number does what the loop over a range does.
use Rattle.std.proofs.Common.{◌≡◌, ◌<◌, ◌≤◌, ◌+◌, ℕ, zero, suc, ℤ, pos, ◌+ℤ◌, arith, Bool, true, false, Some, Result, Ok, Err, List, ◌∷◌, if◌then◌else◌, refl, sym, ap, ◌∙◌, subst}
use Rattle.std.specs.Ordering.{int_cmp, is_lt}
use Rattle.py_tree.specs.declared.names.Place.{Place}
use Rattle.py_tree.specs.PlainExpressions.{PInt, PVar}
use Rattle.sf_value.specs.declared.Failure.{Failure}
use Rattle.sf_value.specs.declared.value.Value.{Value}
use Rattle.sf_value.specs.declared.value.Value.TheVariants as value
use Rattle.program_meaning.specs.declared.vars.Var.{Var}
use Rattle.program_meaning.specs.World.{overflow_error, Got, ◌>>=◌, told, Ends, Goes, with_given, next, next_turn, local_value, assigned}
use Rattle.program_meaning.specs.Operations.{fits, in_range, is_true}
use Rattle.program_meaning.specs.Evaluation.{Site}
use Rattle.program_meaning.specs.Execution.{stepping, turn, counting, over_numbers}
use Rattle.program_meaning.proofs.LightOperations.{int_light}
use Rattle.flat_tree.specs.PlainFlat.{PlainFlatStmt, FSet, FWhile, Point, flat_stmts_of}
use Rattle.flat_tree.specs.FlatMeaning.{Way, into_local, loop_turns, run_stmt, decide, run}
use Rattle.flat_tree.proofs.NamesBelow.{AgreeBelow, agree_within, agree_past, assigned_here, assigned_elsewhere}
use Rattle.flat_tree.proofs.RelatedEnds.{Carries, EndsRelated, both_go, both_return, both_break, both_continue, both_fail, either_related}
use Rattle.flat_tree.proofs.InTurn.{run_alone}
use Rattle.hoisting.specs.HoistStatements.{plus, range_test, range_turn, range_loop}
use Rattle.hoisting.proofs.Loops.{local_gives, up_gives, below_gives, set_runs}

module _ {W : Type 0} (s : Site W) (at : Place) (t u : ℕ) (to : ℤ) where
  -- the next number and the end stand in their temporaries
  pub record Counts (from : ℤ) (us : List Var) : Type 0 where
    pub number : local_value us t ≡ value.Int from
    pub end : local_value us u ≡ value.Int to

  decided : (from : ℤ) (yes' no' : Way W) (us : List Var) (w : W) (n : ℕ) → Counts from us → decide s (range_test at t u) yes' no' us w n ≡ (if is_lt (int_cmp from to) then yes' us w n else no' us w n)
  unfolding decide
  decided from yes' no' us w n c =
      ap (λ g. with_given us g (λ v w n. if is_true v then yes' us w n else no' us w n))
      (below_gives s at (PVar at t) (PVar at u) us from to w n (local_gives s at t us (value.Int from) w n c.number (int_light from)) (local_gives s at u us (value.Int to) w n c.end (int_light to)))

  -- a turn sets the name and makes the next number, and then the body runs
  turn_runs : (name : ℕ) (from : ℤ) (body : List PlainFlatStmt) (us : List Var) (w : W) (n : ℕ) → name < t → Counts from us
      → run s (range_turn at name t body) us w n ≡ with_given (assigned us name (value.Int from)) (told (in_range (from +ℤ pos 1)) w n) (λ up w n. run s body (assigned (assigned us name (value.Int from)) t up) w n)
  unfolding run_stmt
  turn_runs name from body us w n below c =
      set_runs s name (PVar at t) (FSet t (plus at (PVar at t) (PInt at (pos 1))) ∷ body) us (value.Int from) w n (local_gives s at t us (value.Int from) w n c.number (int_light from))
      ∙ ap (λ g. next (into_local t named g) (λ us w n. run s body us w n)) (up_gives s at t from named w n (assigned_elsewhere us name (value.Int from) t apart ∙ c.number))
      ∙ by (in_range (from +ℤ pos 1))
    where
      named : List Var
      named = assigned us name (value.Int from)

      apart : name ≡ t → ⊥
      apart same = omega (arith, below, same)

      by : (r : Result Value Failure) → next (into_local t named (told r w n >>= λ both w n. Got both w n)) (λ us w n. run s body us w n) ≡ with_given named (told r w n) (λ up w n. run s body (assigned named t up) w n)
      by (Ok v) = refl
      by (Err f) = refl

  module _ {limit least : ℕ} {R : List Var → List Var → Type 0} (carries : Carries limit least R) (low : limit ≤ least) (up : least ≤ t) (order : t < u) where
    abbrev pub Related : ℤ → List Var → List Var → Type 0
    Related from us vs = R us vs × Counts from us

    pub related_carries : (from : ℤ) → Carries limit (u + 1) (Related from)
    related_carries from = record { agree = λ r. carries.agree r.0; assign = λ x v below r. (carries.assign x v below r.0, kept x v below r.1); change = λ agree r. (carries.change (agree_within far agree) r.0, still agree r.1) }
      where
        far : least ≤ u + 1
        far = omega (arith, up, order)

        number_in : t < u + 1
        number_in = omega (arith, order)

        end_in : u < u + 1
        end_in = omega arith

        kept : {us : List Var} (x : ℕ) (v : Value) → x < limit → Counts from us → Counts from (assigned us x v)
        kept {us} x v below c = record { number = assigned_elsewhere us x v t (λ same. absurd (omega (arith, below, low, up, same))) ∙ c.number; end = assigned_elsewhere us x v u (λ same. absurd (omega (arith, below, low, up, order, same))) ∙ c.end }

        still : {us later : List Var} → AgreeBelow (u + 1) us later → Counts from us → Counts from later
        still agree c = record { number = sym (agree.each t number_in) ∙ c.number; end = sym (agree.each u end_in) ∙ c.end }

    next_related : (from : ℤ) (a b : Ends W) (f g : Way W) → EndsRelated (Related from) a b → ((us vs : List Var) (w : W) (n : ℕ) → R us vs → Counts from us → EndsRelated R (f us w n) (g vs w n)) → EndsRelated R (next_turn a f) (next_turn b g)
    next_related from _ _ f g (both_go r) rest = rest _ _ _ _ r.0 r.1
    next_related from _ _ f g both_return rest = both_return
    next_related from _ _ f g (both_break r) rest = both_go r.0
    next_related from _ _ f g (both_continue r) rest = rest _ _ _ _ r.0 r.1
    next_related from _ _ f g (both_fail r) rest = both_fail r.0

    made : (z : ℤ) (v : Value) → in_range z ≡ Ok v → v ≡ value.Int z
    unfolding in_range
    made z v is = by (fits z) is
      where
        value_of : Result Value Failure → Value
        value_of (Ok v) = v
        value_of (Err f) = value.Int z

        by : (b : Bool) → (if b then Ok (value.Int z) else Err overflow_error) ≡ Ok v → v ≡ value.Int z
        by true is = sym (ap value_of is)
        by false is = sym (ap value_of is)

    module _ (name : ℕ) (below : name < limit) (code : List PlainFlatStmt) (body : Way W) (bodies : (from : ℤ) (us vs : List Var) (w : W) (n : ℕ) → R us vs → Counts from us → EndsRelated (Related from) (run s code us w n) (body vs w n)) where
      in_time : name < t
      in_time = omega (arith, below, low, up)

      counted : (from : ℤ) (q : Result Value Failure) → in_range (from +ℤ pos 1) ≡ q → (us vs : List Var) (w : W) (n : ℕ) (f g : Way W) → R us vs → Counts from us
          → ((us vs : List Var) (w : W) (n : ℕ) → R us vs → Counts (from +ℤ pos 1) us → EndsRelated R (f us w n) (g vs w n))
          → EndsRelated R (next_turn (with_given (assigned us name (value.Int from)) (told q w n) (λ up w n. run s code (assigned (assigned us name (value.Int from)) t up) w n)) f) (next_turn (with_given (assigned vs name (value.Int from)) (told q w n) (λ up w n. body (assigned vs name (value.Int from)) w n)) g)
      counted from (Err e) is us vs w n f g r c rest = both_fail (carries.assign name (value.Int from) below r)
      counted from (Ok v) is us vs w n f g r c rest =
          next_related (from +ℤ pos 1) _ _ f g
          (bodies (from +ℤ pos 1) (assigned (assigned us name (value.Int from)) t v) (assigned vs name (value.Int from)) w n (carries.change (agree_past least t (assigned us name (value.Int from)) v up) (carries.assign name (value.Int from) below r))
          (record {
            number = assigned_here (assigned us name (value.Int from)) t v ∙ made (from +ℤ pos 1) v is;
            end = assigned_elsewhere (assigned us name (value.Int from)) t v u (λ same. absurd (omega (arith, order, same))) ∙ assigned_elsewhere us name (value.Int from) u (λ same. absurd (omega (arith, below, low, up, order, same))) ∙ c.end;
          })) rest

      one_turn : (from : ℤ) (us vs : List Var) (w : W) (n : ℕ) (f g : Way W) → R us vs → Counts from us → ((us vs : List Var) (w : W) (n : ℕ) → R us vs → Counts (from +ℤ pos 1) us → EndsRelated R (f us w n) (g vs w n))
          → EndsRelated R (next_turn (stepping us w n (λ n. run s (range_turn at name t code) us w n)) f) (next_turn (turn name (counting from body) (value.Int from) vs w n) g)
      one_turn from us vs w zero f g r c rest = both_fail r
      one_turn from us vs w (suc n) f g r c rest =
          subst (λ e. EndsRelated R (next_turn e f) (next_turn (counting from body (assigned vs name (value.Int from)) w n) g)) (sym (turn_runs name from code us w n in_time c)) (counted from (in_range (from +ℤ pos 1)) refl us vs w n f g r c rest)

      pub turns_related : (most : ℕ) (from : ℤ) (us vs : List Var) (w : W) (n : ℕ) → R us vs → Counts from us → EndsRelated R (loop_turns most (decide s (range_test at t u)) (λ us w n. run s (range_turn at name t code) us w n) us w n) (over_numbers most name body from to vs w n)
      unfolding loop_turns over_numbers
      turns_related zero from us vs w n r c = both_fail r
      turns_related (suc most) from us vs w n r c =
          subst (λ e. EndsRelated R e (over_numbers (suc most) name body from to vs w n))
          (sym (decided from (λ us w n. next_turn (stepping us w n (λ n. run s (range_turn at name t code) us w n)) (loop_turns most (decide s (range_test at t u)) (λ us w n. run s (range_turn at name t code) us w n))) (λ us w n. Goes us w n) us w n c))
          (either_related (is_lt (int_cmp from to)) _ _ _ _ (one_turn from us vs w n _ _ r c (λ us vs w n r c. turns_related most (from +ℤ pos 1) us vs w n r c)) (both_go r))

      -- the loop as a statement
      pub range_related : (head after : Point) (from : ℤ) (us vs : List Var) (w : W) (n : ℕ) → R us vs → Counts from us → EndsRelated R (run s (range_loop at name t u head (Some after) code) us w n) (over_numbers (suc n) name body from to vs w n)
      unfolding run_stmt
      range_related head after from us vs w n r c =
          subst (λ e. EndsRelated R e (over_numbers (suc n) name body from to vs w n)) (sym (run_alone s (FWhile head (range_test at t u) head (flat_stmts_of (range_turn at name t code)) (Some after)) us w n)) (turns_related (suc n) from us vs w n r c)
