-- A loop that goes by the places in a list does what the loop over its items does.
use Rattle.std.proofs.Common.{◌≡◌, ◌<◌, ◌≤◌, ◌+◌, ℕ, zero, suc, pos, arith, Bool, true, false, Some, List, [], ◌∷◌, ◌++◌, length, if◌then◌else◌, refl, sym, ap, ◌∙◌, subst}
use Rattle.std.specs.Prelude.{slice_get}
use Rattle.std.specs.Ordering.{int_cmp, is_lt}
use Rattle.py_tree.specs.declared.names.Place.{Place}
use Rattle.py_tree.specs.PlainExpressions.{PInt, PVar, PIndex, PList, PNoExpr}
use Rattle.sf_value.specs.declared.value.Value.{Value}
use Rattle.sf_value.specs.declared.value.Value.TheVariants as value
use Rattle.program_meaning.specs.declared.vars.Var.{Var}
use Rattle.program_meaning.specs.World.{Gives, Got, ◌>>=◌, Ends, Goes, with_given, next, next_turn, local_value, assigned}
use Rattle.program_meaning.specs.Operations.{is_true, items_of}
use Rattle.program_meaning.specs.Evaluation.{Site, eval}
use Rattle.program_meaning.specs.Execution.{stepping, turn, over_items, Items, over_turns}
use Rattle.program_meaning.specs.LightValues.{IsLight}
use Rattle.program_meaning.specs.StepsLeft.{left_at}
use Rattle.flat_tree.specs.PlainFlat.{PlainFlatStmt, FSet, FWhile, Point, flat_stmts_of}
use Rattle.flat_tree.specs.FlatMeaning.{Way, loop_turns, run_stmt, decide, run}
use Rattle.flat_tree.proofs.NamesBelow.{AgreeBelow, agree_within, agree_past, assigned_here, assigned_elsewhere}
use Rattle.flat_tree.proofs.RelatedEnds.{Carries, EndsRelated, both_go, both_return, both_break, both_continue, both_fail}
use Rattle.flat_tree.proofs.InTurn.{run_alone, Holds, holds, loses}
use Rattle.hoisting.specs.HoistStatements.{plus, list_test, list_turn, list_loop}
use Rattle.hoisting.proofs.Loops.{few, empty_light, items_list_light, place_before, place_past, local_gives, number_gives, empty_gives, items_give, place_up, place_below, element_gives, set_runs}

get_there : (bs : List Value) (v : Value) (vs : List Value) → slice_get (bs ++ v ∷ vs) (length bs) ≡ Some v
get_there [] v vs = refl
get_there (b ∷ bs) v vs = get_there bs v vs

length_of_both : (bs vs : List Value) → length (bs ++ vs) ≡ length bs + length vs
length_of_both [] vs = omega arith
length_of_both (b ∷ bs) vs = let rest = length_of_both bs vs in omega (arith, rest)

moved_over : (bs : List Value) (v : Value) (vs : List Value) → bs ++ v ∷ vs ≡ (bs ++ v ∷ []) ++ vs
moved_over [] v vs = refl
moved_over (b ∷ bs) v vs = ap (λ l. b ∷ l) (moved_over bs v vs)

module _ {W : Type 0} (s : Site W) (at : Place) (t : ℕ) (xs : List Value) (light : IsLight (value.List xs)) where
  -- the list and the place in it stand in their temporaries
  pub record AtPlace (p : ℕ) (us : List Var) : Type 0 where
    pub list : local_value us t ≡ value.List xs
    pub place : local_value us (t + 1) ≡ value.Int (pos p)

  place_apart : t + 1 ≡ t → ⊥
  place_apart same = omega (arith, same)

  decided : (p : ℕ) (b : Bool) (yes' no' : Way W) (us : List Var) (w : W) (n : ℕ) → AtPlace p us → is_lt (int_cmp (pos p) (pos (length xs))) ≡ b → decide s (list_test at t) yes' no' us w n ≡ (if b then yes' us w n else no' us w n)
  unfolding decide
  decided p b yes' no' us w n a is =
      ap (λ g. with_given us g (λ v w n. if is_true v then yes' us w n else no' us w n)) (place_below s at t p us xs w n a.list light a.place) ∙ ap (λ b. if b then yes' us w n else no' us w n) is

  -- a turn sets the name and the next place, and then the body runs
  turn_runs : (name p : ℕ) (body : List PlainFlatStmt) (us : List Var) (v : Value) (w : W) (n : ℕ) → name < t → p ≤ 65536 → AtPlace p us → slice_get xs p ≡ Some v
      → run s (list_turn at name t body) us w n ≡ run s body (assigned (assigned us name v) (t + 1) (value.Int (pos (p + 1)))) w n
  turn_runs name p body us v w n below near a there =
      set_runs s name (PIndex at (PVar at t) (PVar at (t + 1))) (FSet (t + 1) (plus at (PVar at (t + 1)) (PInt at (pos 1))) ∷ body) us v w n (element_gives s at t p us xs v w n a.list light a.place there)
      ∙ set_runs s (t + 1) (plus at (PVar at (t + 1)) (PInt at (pos 1))) body (assigned us name v) (value.Int (pos (p + 1))) w n (place_up s at (t + 1) p (assigned us name v) w n near (assigned_elsewhere us name v (t + 1) apart ∙ a.place))
    where
      apart : name ≡ t + 1 → ⊥
      apart same = omega (arith, below, same)

  moved_on : (name p : ℕ) (us : List Var) (v : Value) → name < t → AtPlace p us → AtPlace (p + 1) (assigned (assigned us name v) (t + 1) (value.Int (pos (p + 1))))
  moved_on name p us v below a = record {
    list = assigned_elsewhere (assigned us name v) (t + 1) (value.Int (pos (p + 1))) t place_apart ∙ assigned_elsewhere us name v t apart ∙ a.list;
    place = assigned_here (assigned us name v) (t + 1) (value.Int (pos (p + 1)));
  }
    where
      apart : name ≡ t → ⊥
      apart same = omega (arith, below, same)

  module _ {limit least : ℕ} {R : List Var → List Var → Type 0} (carries : Carries limit least R) (low : limit ≤ least) (up : least ≤ t) where
    abbrev pub Related : ℕ → List Var → List Var → Type 0
    Related p us vs = R us vs × AtPlace p us

    pub related_carries : (p : ℕ) → Carries limit (t + 3) (Related p)
    related_carries p = record { agree = λ r. carries.agree r.0; assign = λ x v below r. (carries.assign x v below r.0, kept x v below r.1); change = λ agree r. (carries.change (agree_within far agree) r.0, still agree r.1) }
      where
        far : least ≤ t + 3
        far = omega (arith, up)

        list_below : t < t + 3
        list_below = omega arith

        place_in : t + 1 < t + 3
        place_in = omega arith

        kept : {us : List Var} (x : ℕ) (v : Value) → x < limit → AtPlace p us → AtPlace p (assigned us x v)
        kept {us} x v below a = record { list = assigned_elsewhere us x v t (λ same. absurd (omega (arith, below, low, up, same))) ∙ a.list; place = assigned_elsewhere us x v (t + 1) (λ same. absurd (omega (arith, below, low, up, same))) ∙ a.place }

        still : {us later : List Var} → AgreeBelow (t + 3) us later → AtPlace p us → AtPlace p later
        still agree a = record { list = sym (agree.each t list_below) ∙ a.list; place = sym (agree.each (t + 1) place_in) ∙ a.place }

    next_related : (p most : ℕ) (a b : Ends W) (f g : Way W) → EndsRelated (Related p) a b → left_at b ≤ most → ((us vs : List Var) (w : W) (n : ℕ) → n ≤ most → R us vs → AtPlace p us → EndsRelated R (f us w n) (g vs w n)) → EndsRelated R (next_turn a f) (next_turn b g)
    next_related p most _ _ f g (both_go r) le rest = rest _ _ _ _ le r.0 r.1
    next_related p most _ _ f g both_return le rest = both_return
    next_related p most _ _ f g (both_break r) le rest = both_go r.0
    next_related p most _ _ f g (both_continue r) le rest = rest _ _ _ _ le r.0 r.1
    next_related p most _ _ f g (both_fail r) le rest = both_fail r.0

    module _ (name : ℕ) (below : name < limit) (code : List PlainFlatStmt) (body : Way W) (bodies : (p : ℕ) (us vs : List Var) (w : W) (n : ℕ) → R us vs → AtPlace p us → EndsRelated (Related p) (run s code us w n) (body vs w n))
        (takes : (vs : List Var) (w : W) (n : ℕ) → left_at (body vs w n) ≤ n) where
      in_time : name < t
      in_time = omega (arith, below, low, up)

      one_turn : (p : ℕ) (v : Value) (us vs : List Var) (w : W) (n : ℕ) (f g : Way W) → p ≤ 65536 → slice_get xs p ≡ Some v → R us vs → AtPlace p us
          → ((us vs : List Var) (w : W) (m : ℕ) → m < n → R us vs → AtPlace (p + 1) us → EndsRelated R (f us w m) (g vs w m))
          → EndsRelated R (next_turn (stepping us w n (λ n. run s (list_turn at name t code) us w n)) f) (next_turn (turn name body v vs w n) g)
      one_turn p v us vs w zero f g near there r a rest = both_fail r
      one_turn p v us vs w (suc m) f g near there r a rest =
          let past : least ≤ t + 1 = omega (arith, up) in
          subst (λ e. EndsRelated R (next_turn e f) (next_turn (body (assigned vs name v) w m) g)) (sym (turn_runs name p code us v w m in_time near a there))
          (next_related (p + 1) m _ _ f g
          (bodies (p + 1) (assigned (assigned us name v) (t + 1) (value.Int (pos (p + 1)))) (assigned vs name v) w m (carries.change (agree_past least (t + 1) (assigned us name v) (value.Int (pos (p + 1))) past) (carries.assign name v below r)) (moved_on name p us v in_time a))
          (takes (assigned vs name v) w m) (λ us vs w n le r a. rest us vs w n (omega (arith, le)) r a))

      -- from a place on, where there are turns enough
      pub turns_related : (rest before : List Value) (p : ℕ) → xs ≡ before ++ rest → length before ≡ p → (most : ℕ) (us vs : List Var) (w : W) (n : ℕ) → n < most → R us vs → AtPlace p us
          → EndsRelated R (loop_turns most (decide s (list_test at t)) (λ us w n. run s (list_turn at name t code) us w n) us w n) (over_items name body rest vs w n)
      unfolding loop_turns over_items
      turns_related rest before p is len zero us vs w n lt r a = absurd (omega (arith, lt))
      turns_related [] before p is len (suc most) us vs w n lt r a =
          let whole = ap length is ∙ length_of_both before [] in
          let past : length xs ≤ p = omega (arith, whole, len) in
          subst (λ e. EndsRelated R e (Goes vs w n)) (sym (decided p false _ (λ us w n. Goes us w n) us w n a (place_past p (length xs) past))) (both_go r)
      turns_related (v ∷ rest) before p is len (suc most) us vs w n lt r a =
          let whole = ap length is ∙ length_of_both before (v ∷ rest) in
          let within : p < length xs = omega (arith, whole, len) in
          let all = few xs light in
          let near : p ≤ 65536 = omega (arith, within, all) in
          let there : slice_get xs p ≡ Some v = ap (λ l. slice_get l p) is ∙ ap (λ i. slice_get (before ++ v ∷ rest) i) (sym len) ∙ get_there before v rest in
          let one = length_of_both before (v ∷ []) in
          let more : length (before ++ v ∷ []) ≡ p + 1 = omega (arith, one, len) in
          subst (λ e. EndsRelated R e (over_items name body (v ∷ rest) vs w n))
          (sym (decided p true (λ us w n. next_turn (stepping us w n (λ n. run s (list_turn at name t code) us w n)) (loop_turns most (decide s (list_test at t)) (λ us w n. run s (list_turn at name t code) us w n))) (λ us w n. Goes us w n) us w n a (place_before p (length xs) within)))
          (one_turn p v us vs w n _ _ near there r a (λ us vs w m less r a. turns_related rest (before ++ v ∷ []) (p + 1) (is ∙ moved_over before v rest) more most us vs w m (omega (arith, less, lt)) r a))

-- The whole loop, with a list in its temporary

module _ {W : Type 0} (s : Site W) (at : Place) (t : ℕ) where
  -- the locals as the turns begin
  abbrev begun : Value → List Var → List Var
  begun x us = assigned (assigned (assigned us (t + 2) (value.List [])) t (value.List (items_of x))) (t + 1) (value.Int (pos 0))

  loop_begins : (name : ℕ) (head after : Point) (code : List PlainFlatStmt) (us : List Var) (x : Value) (w : W) (n : ℕ) → IsLight x → ((later : List Var) (w : W) (n : ℕ) → AgreeBelow (t + 1) us later → eval s (PVar at t) later w n ≡ Got x w n)
      → run s (list_loop at name t head (Some after) code) us w n ≡ loop_turns (suc n) (decide s (list_test at t)) (λ us w n. run s (list_turn at name t code) us w n) (begun x us) w n
  unfolding run_stmt
  loop_begins name head after code us x w n light reads =
      set_runs s (t + 2) (PList at PNoExpr) (FSet t (plus at (PVar at (t + 2)) (PVar at t)) ∷ FSet (t + 1) (PInt at (pos 0)) ∷ loop ∷ []) us (value.List []) w n (empty_gives s at us w n)
      ∙ set_runs s t (plus at (PVar at (t + 2)) (PVar at t)) (FSet (t + 1) (PInt at (pos 0)) ∷ loop ∷ []) with_empty (value.List (items_of x)) w n
      (items_give s at (PVar at (t + 2)) (PVar at t) with_empty x w n light (local_gives s at (t + 2) with_empty (value.List []) w n (assigned_here us (t + 2) (value.List [])) empty_light) (reads with_empty w n (agree_past (t + 1) (t + 2) us (value.List []) far)))
      ∙ set_runs s (t + 1) (PInt at (pos 0)) (loop ∷ []) (assigned with_empty t (value.List (items_of x))) (value.Int (pos 0)) w n (number_gives s at (pos 0) (assigned with_empty t (value.List (items_of x))) w n)
      ∙ run_alone s loop (begun x us) w n
    where
      loop : PlainFlatStmt
      loop = FWhile head (list_test at t) head (flat_stmts_of (list_turn at name t code)) (Some after)

      with_empty : List Var
      with_empty = assigned us (t + 2) (value.List [])

      far : t + 1 ≤ t + 2
      far = omega arith

  begun_there : (x : Value) (us : List Var) (light : IsLight (value.List (items_of x))) → AtPlace s at t (items_of x) light 0 (begun x us)
  begun_there x us light = record {
    list = assigned_elsewhere (assigned (assigned us (t + 2) (value.List [])) t (value.List (items_of x))) (t + 1) (value.Int (pos 0)) t (λ same. absurd (omega (arith, same))) ∙ assigned_here (assigned us (t + 2) (value.List [])) t (value.List (items_of x));
    place = assigned_here (assigned (assigned us (t + 2) (value.List [])) t (value.List (items_of x))) (t + 1) (value.Int (pos 0));
  }

  pub list_related : {limit least : ℕ} {R : List Var → List Var → Type 0} (carries : Carries limit least R) (low : limit ≤ least) (up : least ≤ t) (name : ℕ) → name < limit → (head after : Point) (code : List PlainFlatStmt) (body : Way W)
      → ((xs : List Value) (light : IsLight (value.List xs)) (p : ℕ) (us vs : List Var) (w : W) (n : ℕ) → R us vs → AtPlace s at t xs light p us → EndsRelated (λ us vs. R us vs × AtPlace s at t xs light p us) (run s code us w n) (body vs w n))
      → ((vs : List Var) (w : W) (n : ℕ) → left_at (body vs w n) ≤ n)
      → {us vs : List Var} (g : Gives W Value) (e : Ends W) → R us vs → Holds least (t + 1) us (eval s (PVar at t)) g e
      → EndsRelated R (next e (λ us w n. run s (list_loop at name t head (Some after) code) us w n)) (with_given vs (g >>= λ v w n. Got (Items (items_of v)) w n) (λ turns w n. over_turns name body turns vs w n))
  list_related carries low up name below head after code body bodies takes _ _ r (loses agree) = both_fail (carries.change agree r)
  list_related {limit} {least} {R} carries low up name below head after code body bodies takes {us} {vs} _ _ r (holds {later = later} {x = x} {w = w} {n = n} agree light reads) =
      let all : IsLight (value.List (items_of x)) = items_list_light x light in
      let past : least ≤ t + 1 = omega (arith, up) in
      let far : least ≤ t + 2 = omega (arith, up) in
      let enough : n < suc n = omega arith in
      subst (λ e. EndsRelated R e (over_items name body (items_of x) vs w n)) (sym (loop_begins name head after code later x w n light reads))
      (turns_related s at t (items_of x) all carries low up name below code body (λ p us vs w n r a. bodies (items_of x) all p us vs w n r a) takes (items_of x) [] 0 refl refl (suc n) (begun x later) vs w n enough
      (carries.change (agree_past least (t + 1) _ _ past) (carries.change (agree_past least t _ _ up) (carries.change (agree_past least (t + 2) _ _ far) (carries.change agree r))))
      (begun_there x later all))
