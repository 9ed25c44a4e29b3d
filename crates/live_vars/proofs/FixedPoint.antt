-- Sets of live names grow soundly, and where a pass adds nothing they are all that is live.
use Rattle.std.proofs.Common.{◌≡◌, inl, inr, ◌<◌, ◌≤◌, ◌+◌, ◌*◌, arith, ℕ, zero, suc, Bool, true, false, not, cond, Some, List, [], ◌∷◌, ◌++◌, length, get_or, refl, sym, ap, ◌∙◌, subst, true≢false}
use Rattle.std.specs.Prelude.{◌==◌, ◌||◌, ◌&&◌, slice_get, slice_set}
use Rattle.std.specs.List.{list_any}
use Rattle.std.proofs.lemmas.Bool.{eqb-true, eq-eqb}
use Rattle.std.proofs.lemmas.Option.{same_Some, none-some, slice_get_within, slice_get-get_or}
use Rattle.block_code.specs.PlainVars.{PlainVar}
use Rattle.block_code.specs.declared.block.Block.{Block}
use Rattle.block_code.specs.PlainBlocks.{PlainEnd, EJump, EBranch, ELeave, ECall, EMake, PlainCatch, PlainBlock, plain_blocks}
use Rattle.block_code.specs.GraphFits.{is_var}
use Rattle.live_laws.specs.Live.{items_spare, block_reads, GoesOn, Live, here, behind, at_catch}
use Rattle.live_laws.proofs.AlikeTypes.{or_left, or_right}
use Rattle.live_laws.proofs.AlikeWays.{and_true, not_true}
use Rattle.live_laws.proofs.LeavesOn.{in_either, never}
use Rattle.live_laws.proofs.UnsetWays.{two_true, false_of}
use Rattle.live_vars.specs.Saved.{has, TellsLive, LiveAreParams, with_name, has_in, has_at, led_by, caught_by, comes_live, none_for, State, state, list_if_there, with_new, visit, visit_params, visit_all}
use Rattle.live_vars.proofs.SetRules.{set_length}

-- Names that join

has_last : (names : List ℕ) (x y : ℕ) → has (names ++ x ∷ []) y ≡ true → (has names y || (y == x)) ≡ true
has_last [] x y h = in_either (y == x) false ((y == x) ≡ true) h (λ e. e) never
has_last (n ∷ names) x y h = in_either (y == n) (has (names ++ x ∷ []) y) (((y == n) || has names y || (y == x)) ≡ true) h (λ e. left (y == n) (has names y) (y == x) e) (λ e. right (y == n) (has names y) (y == x) (has_last names x y e))
  where
    left : (p q r : Bool) → p ≡ true → ((p || q) || r) ≡ true
    left true q r e = refl
    left false q r e = never e

    right : (p q r : Bool) → (q || r) ≡ true → ((p || q) || r) ≡ true
    right true q r e = refl
    right false q r e = e

has_added : (names : List ℕ) (x : ℕ) → has (names ++ x ∷ []) x ≡ true
has_added [] x = or_left (x == x) false (eq-eqb x x refl)
has_added (n ∷ names) x = or_right (x == n) (has (names ++ x ∷ []) x) (has_added names x)

has_still : (names : List ℕ) (x y : ℕ) → has names y ≡ true → has (names ++ x ∷ []) y ≡ true
has_still [] x y h = never h
has_still (n ∷ names) x y h = in_either (y == n) (has names y) (has ((n ∷ names) ++ x ∷ []) y ≡ true) h (or_left (y == n) (has (names ++ x ∷ []) y)) (λ e. or_right (y == n) (has (names ++ x ∷ []) y) (has_still names x y e))

-- How many parameters aren't in the sets

abbrev one_if_not : Bool → ℕ
one_if_not true = 0
one_if_not false = 1

unfoldable pub missing : List ℕ → List PlainVar → ℕ
missing names [] = 0
missing names (p ∷ ps) = one_if_not (has names p.name) + missing names ps

unfoldable pub all_missing : List (List ℕ) → List PlainBlock → ℕ
all_missing [] bs = 0
all_missing (names ∷ lists) [] = 0
all_missing (names ∷ lists) (b ∷ bs) = missing names b.params + all_missing lists bs

fewer_here : (names : List ℕ) (x y : ℕ) → one_if_not (has (names ++ x ∷ []) y) ≤ one_if_not (has names y)
fewer_here names x y = by (has names y) refl (has (names ++ x ∷ []) y) refl
  where
    by : (p : Bool) → has names y ≡ p → (q : Bool) → has (names ++ x ∷ []) y ≡ q → one_if_not q ≤ one_if_not p
    by true e true f = omega arith
    by true e false f = absurd (true≢false (sym (has_still names x y e) ∙ f))
    by false e true f = omega arith
    by false e false f = omega arith

missing_less : (names : List ℕ) (x : ℕ) (ps : List PlainVar) → missing (names ++ x ∷ []) ps ≤ missing names ps
unfolding missing
missing_less names x [] = let none : 0 ≤ 0 = omega arith in none
missing_less names x (p ∷ ps) =
    let first : one_if_not (has (names ++ x ∷ []) p.name) ≤ one_if_not (has names p.name) = fewer_here names x p.name in
    let rest : missing (names ++ x ∷ []) ps ≤ missing names ps = missing_less names x ps in
    let both : one_if_not (has (names ++ x ∷ []) p.name) + missing (names ++ x ∷ []) ps ≤ one_if_not (has names p.name) + missing names ps = omega (arith, first, rest) in
    both

missing_one_less : (names : List ℕ) (x : ℕ) → has names x ≡ false → (ps : List PlainVar) → list_any (is_var x) ps ≡ true → missing (names ++ x ∷ []) ps < missing names ps
unfolding missing
missing_one_less names x absent [] h = never h
missing_one_less names x absent (p ∷ ps) h =
    in_either (p.name == x) (list_any (is_var x) ps) (missing (names ++ x ∷ []) (p ∷ ps) < missing names (p ∷ ps)) h
    (λ e.
    let same : p.name ≡ x = eqb-true p.name x e in
    let now : one_if_not (has (names ++ x ∷ []) p.name) ≡ 0 = ap one_if_not (ap (has (names ++ x ∷ [])) same ∙ has_added names x) in
    let before : one_if_not (has names p.name) ≡ 1 = ap one_if_not (ap (has names) same ∙ absent) in
    let rest : missing (names ++ x ∷ []) ps ≤ missing names ps = missing_less names x ps in
    let both : one_if_not (has (names ++ x ∷ []) p.name) + missing (names ++ x ∷ []) ps < one_if_not (has names p.name) + missing names ps = omega (arith, now, before, rest) in
    both)
    (λ e.
    let first : one_if_not (has (names ++ x ∷ []) p.name) ≤ one_if_not (has names p.name) = fewer_here names x p.name in
    let rest : missing (names ++ x ∷ []) ps < missing names ps = missing_one_less names x absent ps e in
    let both : one_if_not (has (names ++ x ∷ []) p.name) + missing (names ++ x ∷ []) ps < one_if_not (has names p.name) + missing names ps = omega (arith, first, rest) in
    both)

all_one_less : (lists : List (List ℕ)) (bs : List PlainBlock) (at x : ℕ) (b : PlainBlock) (names : List ℕ) → slice_get lists at ≡ Some names → slice_get bs at ≡ Some b → has names x ≡ false → list_any (is_var x) b.params ≡ true
    → all_missing (slice_set lists at (names ++ x ∷ [])) bs < all_missing lists bs
unfolding all_missing
all_one_less [] bs at x b names is b_is absent h = absurd (none-some names is)
all_one_less (l ∷ lists) [] at x b names is b_is absent h = absurd (none-some b b_is)
all_one_less (l ∷ lists) (d ∷ bs) zero x b names is b_is absent h =
    let same : l ≡ names = same_Some l names is in
    let of_b : d ≡ b = same_Some d b b_is in
    let less : missing (names ++ x ∷ []) d.params < missing names d.params = subst (λ (d : PlainBlock). missing (names ++ x ∷ []) d.params < missing names d.params) (sym of_b) (missing_one_less names x absent b.params h) in
    let less2 : missing (names ++ x ∷ []) d.params < missing l d.params = subst (λ l. missing (names ++ x ∷ []) d.params < missing l d.params) (sym same) less in
    let both : missing (names ++ x ∷ []) d.params + all_missing lists bs < missing l d.params + all_missing lists bs = omega (arith, less2) in
    both
all_one_less (l ∷ lists) (d ∷ bs) (suc at) x b names is b_is absent h =
    let less : all_missing (slice_set lists at (names ++ x ∷ [])) bs < all_missing lists bs = all_one_less lists bs at x b names is b_is absent h in
    let both : missing l d.params + all_missing (slice_set lists at (names ++ x ∷ [])) bs < missing l d.params + all_missing lists bs = omega (arith, less) in
    both

-- A visit

module _ (blocks : List PlainBlock) where
  abbrev pub Sound : List (List ℕ) → Type 0
  Sound lists = (n x : ℕ) → has_at lists n x ≡ true → Live blocks x n

  -- from some sets to others, where nothing was added this holds of them
  pub record Visited (Q : List (List ℕ) → Type 0) (s t : State) : Type 0 where
    pub as_many : length t.lists ≡ length s.lists
    pub sound : Sound s.lists → Sound t.lists
    pub fewer : all_missing t.lists blocks ≤ all_missing s.lists blocks
    pub less : s.added ≡ false → t.added ≡ true → all_missing t.lists blocks < all_missing s.lists blocks
    pub same : t.added ≡ false → (s.added ≡ false) × (t.lists ≡ s.lists) × Q s.lists

  nothing_visited : (Q : List (List ℕ) → Type 0) (s : State) → Q s.lists → Visited Q s s
  nothing_visited Q s q = record { as_many = refl; sound = λ k. k; fewer = omega arith; less = λ e f. absurd (true≢false (sym f ∙ e)); same = λ e. (e, refl, q) }

  both_visited : (Q R : List (List ℕ) → Type 0) (s t u : State) → Visited Q s t → Visited R t u → Visited (λ lists. Q lists × R lists) s u
  both_visited Q R s t u a b = record {
    as_many = b.as_many ∙ a.as_many;
    sound = λ k. b.sound (a.sound k);
    fewer = let first = a.fewer in let second = b.fewer in omega (arith, first, second);
    less = λ e f. by t.added refl e f;
    same = λ e. let second = b.same e in let first = a.same second.0 in (first.0, second.1 ∙ first.1, (first.2, subst R first.1 second.2));
  }
    where
      by : (c : Bool) → t.added ≡ c → s.added ≡ false → u.added ≡ true → all_missing u.lists blocks < all_missing s.lists blocks
      by true h e f = let first = a.less e h in let second = b.fewer in omega (arith, first, second)
      by false h e f = let first = a.fewer in let second = b.less h f in omega (arith, first, second)

  weaker : (Q R : List (List ℕ) → Type 0) (s t : State) → ((lists : List (List ℕ)) → Q lists → R lists) → Visited Q s t → Visited R s t
  weaker Q R s t more a = record { as_many = a.as_many; sound = a.sound; fewer = a.fewer; less = a.less; same = λ e. let p = a.same e in (p.0, p.1, more s.lists p.2) }

  -- what comes so is live

  caught_live : (lists : List (List ℕ)) (n x : ℕ) (b : PlainBlock) → slice_get blocks n ≡ Some b → Sound lists → (ks : List PlainCatch) → ((place : ℕ) (k : PlainCatch) → slice_get ks place ≡ Some k → (j : ℕ) × (slice_get b.catches j ≡ Some k)) → caught_by lists ks x ≡ true → Live blocks x n
  unfolding caught_by
  caught_live lists n x b is sound [] within h = never h
  caught_live lists n x b is sound (k ∷ ks) within h =
      in_either (has_at lists k.to x) (caught_by lists ks x) (Live blocks x n) h (λ e. let p = within 0 k refl in at_catch {k = k} p.0 is p.1 (sound k.to x e)) (caught_live lists n x b is sound ks (λ place. within (suc place)))

  led_live : (lists : List (List ℕ)) (n x : ℕ) (b : PlainBlock) → slice_get blocks n ≡ Some b → Sound lists → items_spare b.code x ≡ true → (e : PlainEnd) → b.end ≡ e → led_by lists e x ≡ true → Live blocks x n
  led_live lists n x b is sound spares (EJump to) e h = behind is spares (subst (λ e. GoesOn e x to) (sym e) refl) (sound to x h)
  led_live lists n x b is sound spares (EBranch test holds fails) e h =
      in_either (has_at lists holds x) (has_at lists fails x) (Live blocks x n) h (λ k. behind is spares (subst (λ e. GoesOn e x holds) (sym e) (inl refl)) (sound holds x k)) (λ k. behind is spares (subst (λ e. GoesOn e x fails) (sym e) (inr refl)) (sound fails x k))
  led_live lists n x b is sound spares ELeave e h = never h
  led_live lists n x b is sound spares (ECall on class method args into after) e h =
      let p = two_true (not (into == x)) (has_at lists after x) h in behind is spares (subst (λ e. GoesOn e x after) (sym e) (refl, false_of (into == x) p.0)) (sound after x p.1)
  led_live lists n x b is sound spares (EMake class args into after) e h =
      let p = two_true (not (into == x)) (has_at lists after x) h in behind is spares (subst (λ e. GoesOn e x after) (sym e) (refl, false_of (into == x) p.0)) (sound after x p.1)

  came_live : (lists : List (List ℕ)) (n x : ℕ) (b : PlainBlock) → slice_get blocks n ≡ Some b → Sound lists → comes_live lists b x ≡ true → Live blocks x n
  came_live lists n x b is sound h =
      in_either (caught_by lists b.catches x) ((led_by lists b.end x && items_spare b.code x) || block_reads b x) (Live blocks x n) h (caught_live lists n x b is sound b.catches (λ place k k_is. (place, k_is)))
      (λ k. in_either (led_by lists b.end x && items_spare b.code x) (block_reads b x) (Live blocks x n) k
      (λ q. let p = two_true (led_by lists b.end x) (items_spare b.code x) q in led_live lists n x b is sound p.1 b.end refl p.0) (λ r. here is r))

  -- one name

  set_there : (lists : List (List ℕ)) (at : ℕ) (names : List ℕ) → at < length lists → slice_get (slice_set lists at names) at ≡ Some names
  set_there [] at names less = absurd (omega (arith, less))
  set_there (l ∷ lists) zero names less = refl
  set_there (l ∷ lists) (suc at) names less = set_there lists at names (omega (arith, less))

  set_elsewhere : (lists : List (List ℕ)) (at n : ℕ) (names : List ℕ) → (n ≡ at → ⊥) → slice_get (slice_set lists at names) n ≡ slice_get lists n
  set_elsewhere [] at n names other = refl
  set_elsewhere (l ∷ lists) zero zero names other = absurd (other refl)
  set_elsewhere (l ∷ lists) zero (suc n) names other = refl
  set_elsewhere (l ∷ lists) (suc at) zero names other = refl
  set_elsewhere (l ∷ lists) (suc at) (suc n) names other = set_elsewhere lists at n names (λ e. other (ap suc e))

  -- it is among the names of the block, unless it isn't live by them
  abbrev IsClosed : ℕ → PlainBlock → ℕ → List (List ℕ) → Type 0
  IsClosed at b x lists = comes_live lists b x ≡ true → has_at lists at x ≡ true

  visited_one : (at : ℕ) (b : PlainBlock) → slice_get blocks at ≡ Some b → (x : ℕ) → list_any (is_var x) b.params ≡ true → (s : State) → at < length s.lists → Visited (IsClosed at b x) s (visit b at s x)
  visited_one at b is x param s less = by (has_at s.lists at x) refl (comes_live s.lists b x) refl
    where
      added : (names : List ℕ) → slice_get s.lists at ≡ Some names → has names x ≡ false → comes_live s.lists b x ≡ true → Visited (IsClosed at b x) s (state (slice_set s.lists at (names ++ x ∷ [])) true)
      added names names_are absent comes = record {
        as_many = set_length s.lists at (names ++ x ∷ []);
        sound = λ sound n y h. at_number sound n y (n == at) refl h;
        fewer = let k = all_one_less s.lists blocks at x b names names_are is absent param in omega (arith, k);
        less = λ e f. all_one_less s.lists blocks at x b names names_are is absent param;
        same = λ e. absurd (true≢false e);
      }
        where
          at_number : Sound s.lists → (n y : ℕ) (c : Bool) → (n == at) ≡ c → has_at (slice_set s.lists at (names ++ x ∷ [])) n y ≡ true → Live blocks y n
          at_number sound n y false e h = sound n y (sym (ap (λ o. has_in o y) (set_elsewhere s.lists at n (names ++ x ∷ []) (λ f. true≢false (sym (eq-eqb n at f) ∙ e)))) ∙ h)
          at_number sound n y true e h =
              let same : n ≡ at = eqb-true n at e in
              let there : has (names ++ x ∷ []) y ≡ true = sym (ap (λ o. has_in o y) (ap (slice_get (slice_set s.lists at (names ++ x ∷ []))) same ∙ set_there s.lists at (names ++ x ∷ []) less)) ∙ h in
              in_either (has names y) (y == x) (Live blocks y n) (has_last names x y there) (λ k. sound n y (ap (λ o. has_in o y) (ap (slice_get s.lists) same ∙ names_are) ∙ k))
              (λ k. subst (λ y. Live blocks y n) (sym (eqb-true y x k)) (subst (Live blocks x) (sym same) (came_live s.lists at x b is sound comes)))

      by : (p : Bool) → has_at s.lists at x ≡ p → (q : Bool) → comes_live s.lists b x ≡ q → Visited (IsClosed at b x) s (cond p s (cond q (state (with_new s.lists at x) true) s))
      by true e q f = nothing_visited (IsClosed at b x) s (λ h. e)
      by false e false f = nothing_visited (IsClosed at b x) s (λ h. absurd (true≢false (sym h ∙ f)))
      by false e true f =
          let names : List ℕ = get_or s.lists at [] in
          let names_are : slice_get s.lists at ≡ Some names = slice_get-get_or s.lists at [] less in
          let absent : has names x ≡ false = sym (ap (λ o. has_in o x) names_are) ∙ e in
          subst (λ lists. Visited (IsClosed at b x) s (state lists true)) (sym (ap (λ o. slice_set s.lists at (with_name (list_if_there o) x)) names_are ∙ ap (λ c. slice_set s.lists at (cond c names (names ++ x ∷ []))) absent)) (added names names_are absent f)

  -- the parameters of a block, and all blocks

  abbrev AreClosed : ℕ → PlainBlock → List PlainVar → List (List ℕ) → Type 0
  AreClosed at b ps lists = (x : ℕ) → list_any (is_var x) ps ≡ true → IsClosed at b x lists

  visited_params : (at : ℕ) (b : PlainBlock) → slice_get blocks at ≡ Some b → (ps : List PlainVar) → ((x : ℕ) → list_any (is_var x) ps ≡ true → list_any (is_var x) b.params ≡ true) → (s : State) → at < length s.lists → Visited (AreClosed at b ps) s (visit_params b at ps s)
  unfolding visit_params
  visited_params at b is [] within s less = nothing_visited (AreClosed at b []) s (λ x h. never h)
  visited_params at b is (p ∷ ps) within s less =
      let first : Visited (IsClosed at b p.name) s (visit b at s p.name) = visited_one at b is p.name (within p.name (or_left (p.name == p.name) (list_any (is_var p.name) ps) (eq-eqb p.name p.name refl))) s less in
      let rest : Visited (AreClosed at b ps) (visit b at s p.name) (visit_params b at ps (visit b at s p.name)) =
      visited_params at b is ps (λ x h. within x (or_right (p.name == x) (list_any (is_var x) ps) h)) (visit b at s p.name) (subst (λ n. at < n) (sym first.as_many) less) in
      weaker (λ lists. IsClosed at b p.name lists × AreClosed at b ps lists) (AreClosed at b (p ∷ ps)) s _
      (λ lists q x h. in_either (p.name == x) (list_any (is_var x) ps) (IsClosed at b x lists) h (λ e. subst (λ y. IsClosed at b y lists) (eqb-true p.name x e) q.0) (q.1 x)) (both_visited (IsClosed at b p.name) (AreClosed at b ps) s _ _ first rest)

  abbrev AllClosed : ℕ → List PlainBlock → List (List ℕ) → Type 0
  AllClosed at bs lists = (k : ℕ) (b : PlainBlock) → slice_get bs k ≡ Some b → AreClosed (at + k) b b.params lists

  visited_all : (at : ℕ) (bs : List PlainBlock) → ((k : ℕ) (b : PlainBlock) → slice_get bs k ≡ Some b → slice_get blocks (at + k) ≡ Some b) → (s : State) → length s.lists ≡ length blocks → Visited (AllClosed at bs) s (visit_all at bs s)
  unfolding visit_all
  visited_all at [] within s many = nothing_visited (AllClosed at []) s (λ k b is. absurd (none-some b is))
  visited_all at (b ∷ bs) within s many =
      let here_is : slice_get blocks at ≡ Some b = (let e : at + 0 ≡ at = omega arith in subst (λ n. slice_get blocks n ≡ Some b) e (within 0 b refl)) in
      let first : Visited (AreClosed at b b.params) s (visit_params b at b.params s) = visited_params at b here_is b.params (λ x h. h) s (subst (λ n. at < n) (sym many) (slice_get_within blocks at b here_is)) in
      let rest : Visited (AllClosed (suc at) bs) (visit_params b at b.params s) (visit_all (suc at) bs (visit_params b at b.params s)) =
      visited_all (suc at) bs (λ k d is. let e : at + suc k ≡ suc at + k = omega arith in subst (λ n. slice_get blocks n ≡ Some d) e (within (suc k) d is)) (visit_params b at b.params s) (first.as_many ∙ many) in
      weaker (λ lists. AreClosed at b b.params lists × AllClosed (suc at) bs lists) (AllClosed at (b ∷ bs)) s _ (λ lists q k d is. by lists q k d is) (both_visited (AreClosed at b b.params) (AllClosed (suc at) bs) s _ _ first rest)
    where
      by : (lists : List (List ℕ)) → AreClosed at b b.params lists × AllClosed (suc at) bs lists → (k : ℕ) (d : PlainBlock) → slice_get (b ∷ bs) k ≡ Some d → AreClosed (at + k) d d.params lists
      by lists q zero d is = let e : at ≡ at + 0 = omega arith in subst (λ n. AreClosed n d d.params lists) e (subst (λ (d : PlainBlock). AreClosed at d d.params lists) (same_Some b d is) q.0)
      by lists q (suc k) d is = let e : suc at + k ≡ at + suc k = omega arith in subst (λ n. AreClosed n d d.params lists) e (q.1 k d is)

  -- Where nothing was added

  module _ (lists : List (List ℕ)) (closed : AllClosed 0 blocks lists) (params : LiveAreParams blocks) where
    joins : (n x : ℕ) (b : PlainBlock) → slice_get blocks n ≡ Some b → Live blocks x n → comes_live lists b x ≡ true → has_at lists n x ≡ true
    joins n x b is live comes = let e : 0 + n ≡ n = omega arith in subst (λ n. has_at lists n x ≡ true) e (closed n b is x (params n b is x live) comes)

    led : (e : PlainEnd) (x next : ℕ) → GoesOn e x next → has_at lists next x ≡ true → led_by lists e x ≡ true
    led (EJump to) x next on h = subst (λ n. has_at lists n x ≡ true) on h
    led (EBranch test holds fails) x next (inl on) h = or_left (has_at lists holds x) (has_at lists fails x) (subst (λ n. has_at lists n x ≡ true) on h)
    led (EBranch test holds fails) x next (inr on) h = or_right (has_at lists holds x) (has_at lists fails x) (subst (λ n. has_at lists n x ≡ true) on h)
    led ELeave x next on h = absurd on
    led (ECall receiver class method args into after) x next on h = and_true (not (into == x)) (has_at lists after x) (not_true (into == x) on.1) (subst (λ n. has_at lists n x ≡ true) on.0 h)
    led (EMake class args into after) x next on h = and_true (not (into == x)) (has_at lists after x) (not_true (into == x) on.1) (subst (λ n. has_at lists n x ≡ true) on.0 h)

    caught : (ks : List PlainCatch) (place : ℕ) (k : PlainCatch) (x : ℕ) → slice_get ks place ≡ Some k → has_at lists k.to x ≡ true → caught_by lists ks x ≡ true
    unfolding caught_by
    caught [] place k x is h = absurd (none-some k is)
    caught (c ∷ ks) zero k x is h = or_left (has_at lists c.to x) (caught_by lists ks x) (subst (λ (k : PlainCatch). has_at lists k.to x ≡ true) (sym (same_Some c k is)) h)
    caught (c ∷ ks) (suc place) k x is h = or_right (has_at lists c.to x) (caught_by lists ks x) (caught ks place k x is h)

    all_in : (x n : ℕ) → Live blocks x n → has_at lists n x ≡ true
    all_in x n (here {b = b} is r) = joins n x b is (here is r) (or_right (caught_by lists b.catches x) _ (or_right (led_by lists b.end x && items_spare b.code x) (block_reads b x) r))
    all_in x n (behind {next = next} {b = b} is e on l) =
        joins n x b is (behind is e on l) (or_right (caught_by lists b.catches x) _ (or_left (led_by lists b.end x && items_spare b.code x) (block_reads b x) (and_true (led_by lists b.end x) (items_spare b.code x) (led b.end x next on (all_in x next l)) e)))
    all_in x n (at_catch {b = b} {k = k} place is k_is l) = joins n x b is (at_catch {k = k} place is k_is l) (or_left (caught_by lists b.catches x) _ (caught b.catches place k x k_is (all_in x k.to l)))

  tells : (lists : List (List ℕ)) → length lists ≡ length blocks → Sound lists → AllClosed 0 blocks lists → LiveAreParams blocks → TellsLive blocks lists
  tells lists many sound closed params = record { as_many = many; each = λ n names is x. (λ h. sound n x (ap (λ o. has_in o x) is ∙ h), λ l. sym (ap (λ o. has_in o x) is) ∙ all_in lists closed params x n l) }

  -- A pass

  pub record Passed (lists : List (List ℕ)) (more : Bool) (new : List (List ℕ)) : Type 0 where
    pub as_many : length new ≡ length blocks
    pub sound : Sound new
    pub less : more ≡ true → all_missing new blocks < all_missing lists blocks
    pub fewer : all_missing new blocks ≤ all_missing lists blocks
    pub done : more ≡ false → LiveAreParams blocks → TellsLive blocks new

  pub passed : (lists new : List (List ℕ)) (more : Bool) → length lists ≡ length blocks → Sound lists → state new more ≡ visit_all 0 blocks (state lists false) → Passed lists more new
  passed lists new more many sound e =
      let v : Visited (AllClosed 0 blocks) (state lists false) (state new more) = subst (Visited (AllClosed 0 blocks) (state lists false)) (sym e) (visited_all 0 blocks (λ k b is. let e : k ≡ 0 + k = omega arith in subst (λ n. slice_get blocks n ≡ Some b) e is) (state lists false) many) in
      record {
        as_many = v.as_many ∙ many;
        sound = v.sound sound;
        less = v.less refl;
        fewer = v.fewer;
        done = λ none params. let s = v.same none in tells new (v.as_many ∙ many) (v.sound sound) (subst (AllClosed 0 blocks) (sym s.1) s.2) params;
      }

  -- Where it begins

  none_length : (n : ℕ) → length (none_for n) ≡ n
  unfolding none_for
  none_length zero = refl
  none_length (suc n) = let k : length (none_for n) ≡ n = none_length n in omega (arith, k)

  none_has : (count n x : ℕ) → has_at (none_for count) n x ≡ false
  unfolding none_for
  none_has zero n x = refl
  none_has (suc count) zero x = refl
  none_has (suc count) (suc n) x = none_has count n x

  pub record Good (lists : List (List ℕ)) : Type 0 where
    pub as_many : length lists ≡ length blocks
    pub sound : Sound lists

  pub none_good : (lists : List (List ℕ)) (count : ℕ) → lists ≡ none_for count → count ≡ length blocks → Good lists
  none_good lists count e f = record { as_many = ap length e ∙ none_length count ∙ f; sound = λ n x h. absurd (true≢false (sym h ∙ ap (λ lists. has_at lists n x) e ∙ none_has count n x)) }

  -- so passes come to an end

  abbrev pub measure : List (List ℕ) → Bool → ℕ
  measure lists more = 2 * all_missing lists blocks + cond more 1 0

  pub shrinks : (lists new : List (List ℕ)) (old more : Bool) → old ≡ true → Passed lists more new → measure new more < measure lists old
  shrinks lists new old more e p = subst (λ b. measure new more < measure lists b) (sym e) (by more refl)
    where
      by : (c : Bool) → more ≡ c → 2 * all_missing new blocks + cond c 1 0 < 2 * all_missing lists blocks + 1
      by true f = let less = p.less f in omega (arith, less)
      by false f = let fewer = p.fewer in omega (arith, fewer)

-- as the code has it
pub code_passed : (blocks shown : List Block) (lists new : List (List ℕ)) (more : Bool) → shown ≡ blocks → Good (plain_blocks blocks) lists → state new more ≡ visit_all 0 (plain_blocks shown) (state lists false) → Passed (plain_blocks blocks) lists more new
code_passed blocks shown lists new more e good h = passed (plain_blocks blocks) lists new more good.as_many good.sound (h ∙ ap (λ bs. visit_all 0 (plain_blocks bs) (state lists false)) e)
