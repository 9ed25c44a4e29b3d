-- Lists that are walked from their last element, and what is made of them.
use Rattle.std.proofs.Common.{◌≡◌, ℕ, zero, suc, ◌+◌, ◌<◌, ◌≤◌, arith, Bool, true, false, List, [], ◌∷◌, length, map, take, drop, get_or, if◌then◌else◌, append-nil, refl, sym, ap, subst, ◌∙◌, true≢false}
use Rattle.std.proofs.lemmas.List.{drop_all}
use Rattle.block_code.specs.PlainBlocks.{PlainBlock}
use Rattle.flat_tree.specs.PlainFlat.{PlainFlatStmt, FNoStmt, PlainFlatArm, FArm, FNoArm, PlainFlatClause, FClause, FNoClause, PlainOperand, FOperand, FNoOperand, flat_stmts_of, flat_arms_of, flat_clauses_of, operands_of}
use Rattle.method_splitter.specs.declared.fault.SplitError.{SplitError}
use Rattle.method_splitter.specs.declared.fault.SplitError.TheVariants.{TooManyBlocks, NoMemory}
use Rattle.method_splitter.specs.Split.{Target, Rest, Jumps, rank_of, Caught, floor, Around, Numbered, plain, ◌and_then◌, stops, split, split_all, split_arms, split_clauses, split_each}
use Rattle.method_splitter.specs.SmallStatements.{reached_part}
use Rattle.method_splitter.specs.SplitSteps.{arm_code, clause_code, and_code, or_code}
use Rattle.method_splitter.specs.Numbering.{rank_below, Ready, Made, Fails}
use Rattle.method_splitter.proofs.NumberLaws.{made_then, fails_then, fails_first, made_plain}

-- Places in lists

from_place : {A B : Type 0} (f : A → B) (xs : List A) (i n : ℕ) (x : A) → i < n → n ≤ length xs → x ≡ get_or xs i x → drop i (map f (take n xs)) ≡ f x ∷ drop (suc i) (map f (take n xs))
from_place f [] i n x less within is = absurd (omega (arith, less, within))
from_place f (y ∷ xs) i zero x less within is = absurd (omega (arith, less))
from_place f (y ∷ xs) zero (suc n) x less within is = ap (λ z. f z ∷ map f (take n xs)) (sym is)
from_place f (y ∷ xs) (suc i) (suc n) x less within is = from_place f xs i n x (omega (arith, less)) (omega (arith, within)) is

pub taken_long : {A B : Type 0} (f : A → B) (xs : List A) (n : ℕ) → length (map f (take n xs)) ≤ n
taken_long f [] zero = omega arith
taken_long f [] (suc n) = omega arith
taken_long f (x ∷ xs) zero = omega arith
taken_long f (x ∷ xs) (suc n) = let rest : length (map f (take n xs)) ≤ n = taken_long f xs n in omega (arith, rest)

-- the element before those that are made
pub part_from : {A B : Type 0} (f : A → B) (xs : List A) (part : List B) (n i at : ℕ) (x : A) → map f (take n xs) ≡ part → n ≤ length xs → i + 1 ≡ at → at ≤ n → x ≡ get_or xs i x → drop i part ≡ f x ∷ drop at part
part_from f xs part n i at x are within next less is =
    let below : i < n = omega (arith, next, less) in
    let up : suc i ≡ at = omega (arith, next) in
    ap (drop i) (sym are) ∙ from_place f xs i n x below within is ∙ (λ j. f x ∷ drop (up j) (are j))

pub all_from : {A B : Type 0} (f : A → B) (xs : List A) (i at : ℕ) (x : A) → i + 1 ≡ at → at ≤ length xs → x ≡ get_or xs i x → drop i (map f xs) ≡ f x ∷ drop at (map f xs)
all_from f [] i at x next less is = absurd (omega (arith, next, less))
all_from f (y ∷ xs) i zero x next less is = absurd (omega (arith, next))
all_from f (y ∷ xs) zero (suc at) x next less is =
    let none : at ≡ 0 = omega (arith, next) in
    (λ j. f (sym is j) ∷ drop (sym none j) (map f xs))
all_from f (y ∷ xs) (suc i) (suc at) x next less is = all_from f xs i at x (omega (arith, next)) (omega (arith, less)) is

-- Statements

none_from : {A : Type 0} (i : ℕ) (x : A) (ys : List A) → drop i [] ≡ x ∷ ys → ⊥
none_from zero x ys is = absurd (omega (arith, ap length is))
none_from (suc i) x ys is = absurd (omega (arith, ap length is))

-- where nothing goes on behind a statement it is the last that is reached
pub stops_last : (xs : List PlainFlatStmt) (i : ℕ) (x : PlainFlatStmt) (ys : List PlainFlatStmt) → drop i (reached_part xs) ≡ x ∷ ys → stops x ≡ true → ys ≡ []
unfolding reached_part
stops_last [] i x ys is so = absurd (none_from i x ys is)
stops_last (y ∷ xs) i x ys is so = by (λ j e. stops_last xs j x ys e so) i (stops y) refl is
  where
    by : ((j : ℕ) → drop j (reached_part xs) ≡ x ∷ ys → ys ≡ []) → (i : ℕ) (b : Bool) → stops y ≡ b → drop i (if b then y ∷ [] else (y ∷ reached_part xs)) ≡ x ∷ ys → ys ≡ []
    by go zero true told is = sym (ap (drop 1) is)
    by go (suc i) true told is = absurd (none_from i x ys is)
    by go zero false told is = absurd (true≢false (sym so ∙ ap stops (sym (ap (λ l. get_or l 0 y) is)) ∙ told))
    by go (suc i) false told is = go i is

-- where statements begin is where those begin that are reached
reached_same : (xs : List PlainFlatStmt) (a : Around) (c : Rest) → split_all (flat_stmts_of (reached_part xs)) a c ≡ split_all (flat_stmts_of xs) a c
unfolding reached_part split
reached_same [] a c = refl
reached_same (x ∷ xs) a c = by (reached_same xs a c) (stops x) refl
  where
    by : split_all (flat_stmts_of (reached_part xs)) a c ≡ split_all (flat_stmts_of xs) a c → (b : Bool) → stops x ≡ b → split_all (flat_stmts_of (if b then x ∷ [] else (x ∷ reached_part xs))) a c ≡ (if b then split x a c else (split_all (flat_stmts_of xs) a c and_then λ rest. split x a rest))
    by same true told = ap (λ b. if b then split x a c else (plain c and_then λ rest. split x a rest)) told
    by same false told =
        ap (λ b. if b then split x a c else (split_all (flat_stmts_of (reached_part xs)) a c and_then λ rest. split x a rest)) told
        ∙ ap (λ (m : Numbered Rest). m and_then λ rest. split x a rest) same

module _ (a : Around) (c : Rest) (old : List PlainBlock) where
  none_made : Ready old (rank_of c) → Made (split_all FNoStmt a c) old old c (rank_of c)
  unfolding split
  none_made ready = made_plain c c old (rank_of c) refl ready

  pub stmts_begin : (part : List PlainFlatStmt) (n : ℕ) → length part ≤ n → Ready old (rank_of c) → Made (split_all (flat_stmts_of (drop n part)) a c) old old c (rank_of c)
  stmts_begin part n past ready = subst (λ l. Made (split_all (flat_stmts_of l) a c) old old c (rank_of c)) (sym (drop_all n part past)) (none_made ready)

  nothing_more : (mid : List PlainBlock) (r : Rest) (k : ℕ) → Made (split_all FNoStmt a c) old mid r k → (mid ≡ old) × (r ≡ c)
  unfolding split
  nothing_more mid r k p = (p.blocks ∙ append-nil old, p.is)

  module _ (x : PlainFlatStmt) (ys : List PlainFlatStmt) (mid : List PlainBlock) (r : Rest) (k : ℕ) (last : stops x ≡ true → ys ≡ []) (p : Made (split_all (flat_stmts_of ys) a c) old mid r k) where
    alone : stops x ≡ true → (mid ≡ old) × (r ≡ c)
    alone so = nothing_more mid r k (subst (λ l. Made (split_all (flat_stmts_of l) a c) old mid r k) (last so) p)

    pub stmt_more : (new : List PlainBlock) (s : Rest) (l : ℕ) → Made (split x a r) mid new s l → Made (split_all (flat_stmts_of (x ∷ ys)) a c) old new s l
    unfolding split
    stmt_more new s l q = by (stops x) refl
      where
        by : (b : Bool) → stops x ≡ b → Made (if b then split x a c else (split_all (flat_stmts_of ys) a c and_then λ rest. split x a rest)) old new s l
        by true told = let same = alone told in subst (λ d. Made (split x a d) old new s l) same.1 (subst (λ o. Made (split x a r) o new s l) same.0 q)
        by false told = made_then _ (λ rest. split x a rest) old mid new r k p s l q

    pub stmt_fails : (e : SplitError) → Fails (split x a r) mid e → Fails (split_all (flat_stmts_of (x ∷ ys)) a c) old e
    unfolding split
    stmt_fails e q = by (stops x) refl
      where
        by : (b : Bool) → stops x ≡ b → Fails (if b then split x a c else (split_all (flat_stmts_of ys) a c and_then λ rest. split x a rest)) old e
        by true told = let same = alone told in subst (λ d. Fails (split x a d) old e) same.1 (subst (λ o. Fails (split x a r) o e) same.0 q)
        by false told = fails_then _ (λ rest. split x a rest) old mid mid r k p e q

  no_failure : (e : SplitError) → length old ≤ 4294967295 → Fails (plain c) old e → {A : Type 0} → (m : Numbered A) → Fails m old e
  no_failure NoMemory few h m = tt
  no_failure TooManyBlocks few h m = absurd (omega (arith, few, h))

  -- what the last statements fail by, all do
  pub stmts_fail : (xs : List PlainFlatStmt) (i : ℕ) (e : SplitError) → length old ≤ 4294967295 → Fails (split_all (flat_stmts_of (drop i (reached_part xs))) a c) old e → Fails (split_all (flat_stmts_of xs) a c) old e
  unfolding reached_part split
  stmts_fail xs zero e few h = subst (λ (m : Numbered Rest). Fails m old e) (reached_same xs a c) h
  stmts_fail [] (suc i) e few h = h
  stmts_fail (x ∷ xs) (suc i) e few h = by (λ g. stmts_fail xs i e few g) (stops x) h
    where
      by : (Fails (split_all (flat_stmts_of (drop i (reached_part xs))) a c) old e → Fails (split_all (flat_stmts_of xs) a c) old e) → (b : Bool) → Fails (split_all (flat_stmts_of (drop (suc i) (if b then x ∷ [] else (x ∷ reached_part xs)))) a c) old e → Fails (if b then split x a c else (split_all (flat_stmts_of xs) a c and_then λ rest. split x a rest)) old e
      by go true h = no_failure e few (end i h) (split x a c)
        where
          end : (i : ℕ) → Fails (split_all (flat_stmts_of (drop i [])) a c) old e → Fails (plain c) old e
          end zero h = h
          end (suc i) h = h
      by go false h = fails_first (split_all (flat_stmts_of xs) a c) (λ rest. split x a rest) old old old c 0 e (go h)

  -- from a statement on
  pub stmts_fail_from : (xs : List PlainFlatStmt) (i : ℕ) (x : PlainFlatStmt) (ys : List PlainFlatStmt) (mid : List PlainBlock) (r : Rest) (k : ℕ) (e : SplitError) → length old ≤ 4294967295 → drop i (reached_part xs) ≡ x ∷ ys
      → Made (split_all (flat_stmts_of ys) a c) old mid r k → Fails (split x a r) mid e → Fails (split_all (flat_stmts_of xs) a c) old e
  stmts_fail_from xs i x ys mid r k e few from p q =
      stmts_fail xs i e few (subst (λ l. Fails (split_all (flat_stmts_of l) a c) old e) (sym from) (stmt_fails x ys mid r k (stops_last xs i x ys from) p e q))

  pub stmts_more_from : (xs : List PlainFlatStmt) (i : ℕ) (x : PlainFlatStmt) (ys : List PlainFlatStmt) (mid new : List PlainBlock) (r s : Rest) (k l : ℕ) → drop i (reached_part xs) ≡ x ∷ ys
      → Made (split_all (flat_stmts_of ys) a c) old mid r k → Made (split x a r) mid new s l → Made (split_all (flat_stmts_of (drop i (reached_part xs))) a c) old new s l
  stmts_more_from xs i x ys mid new r s k l from p q =
      subst (λ d. Made (split_all (flat_stmts_of d) a c) old new s l) (sym from) (stmt_more x ys mid r k (stops_last xs i x ys from) p new s l q)

  pub stmts_whole : (xs : List PlainFlatStmt) (i : ℕ) (new : List PlainBlock) (s : Rest) (l : ℕ) → i ≡ 0 → Made (split_all (flat_stmts_of (drop i (reached_part xs))) a c) old new s l → Made (split_all (flat_stmts_of xs) a c) old new s l
  stmts_whole xs zero new s l none p = subst (λ (m : Numbered Rest). Made m old new s l) (reached_same xs a c) p
  stmts_whole xs (suc i) new s l none p = absurd (omega (arith, none))

-- Arms

module _ (a : Around) (c other : Rest) (old : List PlainBlock) where
  no_arms : Ready old (rank_of other) → Made (split_arms FNoArm a c other) old old other (rank_of other)
  unfolding split
  no_arms ready = made_plain other other old (rank_of other) refl ready

  pub arms_begin : (arms : List PlainFlatArm) (n : ℕ) → length arms ≤ n → Ready old (rank_of other) → Made (split_arms (flat_arms_of (drop n arms)) a c other) old old other (rank_of other)
  arms_begin arms n past ready = subst (λ l. Made (split_arms (flat_arms_of l) a c other) old old other (rank_of other)) (sym (drop_all n arms past)) (no_arms ready)

  pub arm_more : (arm : PlainFlatArm) (more : List PlainFlatArm) (mid new : List PlainBlock) (r s : Rest) (k l : ℕ) → Made (split_arms (flat_arms_of more) a c other) old mid r k → Made (arm_code arm a c r) mid new s l
      → Made (split_arms (flat_arms_of (arm ∷ more)) a c other) old new s l
  unfolding split
  arm_more (FArm test start body rest) more mid new r s k l p q = made_then _ (λ later. arm_code (FArm test start body rest) a c later) old mid new r k p s l q

  pub arm_fails : (arm : PlainFlatArm) (more : List PlainFlatArm) (mid : List PlainBlock) (r : Rest) (k : ℕ) (e : SplitError) → Made (split_arms (flat_arms_of more) a c other) old mid r k → Fails (arm_code arm a c r) mid e
      → Fails (split_arms (flat_arms_of (arm ∷ more)) a c other) old e
  unfolding split
  arm_fails (FArm test start body rest) more mid r k e p q = fails_then _ (λ later. arm_code (FArm test start body rest) a c later) old mid mid r k p e q

  -- what the last arms fail by, all do
  pub arms_fail : (arms : List PlainFlatArm) (i : ℕ) (e : SplitError) → Fails (split_arms (flat_arms_of (drop i arms)) a c other) old e → Fails (split_arms (flat_arms_of arms) a c other) old e
  unfolding split
  arms_fail arms zero e h = h
  arms_fail [] (suc i) e h = h
  arms_fail (FArm test start body rest ∷ arms) (suc i) e h = fails_first (split_arms (flat_arms_of arms) a c other) (λ later. arm_code (FArm test start body rest) a c later) old old old c 0 e (arms_fail arms i e h)

  pub arms_fail_from : (arms : List PlainFlatArm) (i : ℕ) (arm : PlainFlatArm) (more : List PlainFlatArm) (mid : List PlainBlock) (r : Rest) (k : ℕ) (e : SplitError) → drop i arms ≡ arm ∷ more → Made (split_arms (flat_arms_of more) a c other) old mid r k
      → Fails (arm_code arm a c r) mid e → Fails (split_arms (flat_arms_of arms) a c other) old e
  arms_fail_from arms i arm more mid r k e from p q = arms_fail arms i e (subst (λ l. Fails (split_arms (flat_arms_of l) a c other) old e) (sym from) (arm_fails arm more mid r k e p q))

-- Clauses

module _ (a : Around) (c : Rest) (old : List PlainBlock) where
  no_clause : (ks : List Caught) → ks ≡ a.catches → Ready old (floor a.catches) → Made (split_clauses FNoClause a c) old old ks (floor ks)
  unfolding split
  no_clause ks is ready = made_plain a.catches ks old (floor ks) is (record { few = ready.few; low = subst (λ ls. floor ls ≤ length old) (sym is) ready.low })

  pub clauses_begin : (clauses : List PlainFlatClause) (n : ℕ) (ks : List Caught) → length clauses ≤ n → ks ≡ a.catches → Ready old (floor a.catches) → Made (split_clauses (flat_clauses_of (drop n clauses)) a c) old old ks (floor ks)
  clauses_begin clauses n ks past is ready = subst (λ l. Made (split_clauses (flat_clauses_of l) a c) old old ks (floor ks)) (sym (drop_all n clauses past)) (no_clause ks is ready)

  pub clause_more : (clause : PlainFlatClause) (more : List PlainFlatClause) (mid new : List PlainBlock) (ks ls : List Caught) (k l : ℕ) → Made (split_clauses (flat_clauses_of more) a c) old mid ks k → Made (clause_code clause a c ks) mid new ls l
      → Made (split_clauses (flat_clauses_of (clause ∷ more)) a c) old new ls l
  unfolding split
  clause_more (FClause kinds start body) more mid new ks ls k l p q = made_then _ (λ later. clause_code (FClause kinds start body) a c later) old mid new ks k p ls l q

  clause_fails : (clause : PlainFlatClause) (more : List PlainFlatClause) (mid : List PlainBlock) (ks : List Caught) (k : ℕ) (e : SplitError) → Made (split_clauses (flat_clauses_of more) a c) old mid ks k → Fails (clause_code clause a c ks) mid e
      → Fails (split_clauses (flat_clauses_of (clause ∷ more)) a c) old e
  unfolding split
  clause_fails (FClause kinds start body) more mid ks k e p q = fails_then _ (λ later. clause_code (FClause kinds start body) a c later) old mid mid ks k p e q

  -- what the last clauses fail by, all do
  clauses_fail : (clauses : List PlainFlatClause) (i : ℕ) (e : SplitError) → Fails (split_clauses (flat_clauses_of (drop i clauses)) a c) old e → Fails (split_clauses (flat_clauses_of clauses) a c) old e
  unfolding split
  clauses_fail clauses zero e h = h
  clauses_fail [] (suc i) e h = h
  clauses_fail (FClause kinds start body ∷ clauses) (suc i) e h = fails_first (split_clauses (flat_clauses_of clauses) a c) (λ later. clause_code (FClause kinds start body) a c later) old old old [] 0 e (clauses_fail clauses i e h)

  pub clauses_fail_from : (clauses : List PlainFlatClause) (i : ℕ) (clause : PlainFlatClause) (more : List PlainFlatClause) (mid : List PlainBlock) (ks : List Caught) (k : ℕ) (e : SplitError) → drop i clauses ≡ clause ∷ more
      → Made (split_clauses (flat_clauses_of more) a c) old mid ks k → Fails (clause_code clause a c ks) mid e → Fails (split_clauses (flat_clauses_of clauses) a c) old e
  clauses_fail_from clauses i clause more mid ks k e from p q = clauses_fail clauses i e (subst (λ l. Fails (split_clauses (flat_clauses_of l) a c) old e) (sym from) (clause_fails clause more mid ks k e p q))

-- Operands

module _ (a : Around) (holds fails : Target) (old : List PlainBlock) where
  no_and : Ready old (rank_below holds) → Made (split_each true FNoOperand a holds fails) old old (Jumps holds) (rank_below holds)
  unfolding split
  no_and ready = made_plain (Jumps holds) (Jumps holds) old (rank_below holds) refl ready

  no_or : Ready old (rank_below fails) → Made (split_each false FNoOperand a holds fails) old old (Jumps fails) (rank_below fails)
  unfolding split
  no_or ready = made_plain (Jumps fails) (Jumps fails) old (rank_below fails) refl ready

  pub and_begins : (operands : List PlainOperand) (n : ℕ) → length operands ≤ n → Ready old (rank_below holds) → Made (split_each true (operands_of (drop n operands)) a holds fails) old old (Jumps holds) (rank_below holds)
  and_begins operands n past ready = subst (λ l. Made (split_each true (operands_of l) a holds fails) old old (Jumps holds) (rank_below holds)) (sym (drop_all n operands past)) (no_and ready)

  pub or_begins : (operands : List PlainOperand) (n : ℕ) → length operands ≤ n → Ready old (rank_below fails) → Made (split_each false (operands_of (drop n operands)) a holds fails) old old (Jumps fails) (rank_below fails)
  or_begins operands n past ready = subst (λ l. Made (split_each false (operands_of l) a holds fails) old old (Jumps fails) (rank_below fails)) (sym (drop_all n operands past)) (no_or ready)

  pub and_more : (operand : PlainOperand) (more : List PlainOperand) (mid new : List PlainBlock) (r s : Rest) (k l : ℕ) → Made (split_each true (operands_of more) a holds fails) old mid r k → Made (and_code operand a fails r) mid new s l
      → Made (split_each true (operands_of (operand ∷ more)) a holds fails) old new s l
  unfolding split
  and_more (FOperand test rest) more mid new r s k l p q = made_then _ (λ later. and_code (FOperand test rest) a fails later) old mid new r k p s l q

  pub or_more : (operand : PlainOperand) (more : List PlainOperand) (mid new : List PlainBlock) (r s : Rest) (k l : ℕ) → Made (split_each false (operands_of more) a holds fails) old mid r k → Made (or_code operand a holds r) mid new s l
      → Made (split_each false (operands_of (operand ∷ more)) a holds fails) old new s l
  unfolding split
  or_more (FOperand test rest) more mid new r s k l p q = made_then _ (λ later. or_code (FOperand test rest) a holds later) old mid new r k p s l q

  pub and_fails : (operand : PlainOperand) (more : List PlainOperand) (mid : List PlainBlock) (r : Rest) (k : ℕ) (e : SplitError) → Made (split_each true (operands_of more) a holds fails) old mid r k → Fails (and_code operand a fails r) mid e
      → Fails (split_each true (operands_of (operand ∷ more)) a holds fails) old e
  unfolding split
  and_fails (FOperand test rest) more mid r k e p q = fails_then _ (λ later. and_code (FOperand test rest) a fails later) old mid mid r k p e q

  pub or_fails : (operand : PlainOperand) (more : List PlainOperand) (mid : List PlainBlock) (r : Rest) (k : ℕ) (e : SplitError) → Made (split_each false (operands_of more) a holds fails) old mid r k → Fails (or_code operand a holds r) mid e
      → Fails (split_each false (operands_of (operand ∷ more)) a holds fails) old e
  unfolding split
  or_fails (FOperand test rest) more mid r k e p q = fails_then _ (λ later. or_code (FOperand test rest) a holds later) old mid mid r k p e q

  -- what the last operands fail by, all do
  pub all_and_fail : (operands : List PlainOperand) (i : ℕ) (e : SplitError) → Fails (split_each true (operands_of (drop i operands)) a holds fails) old e → Fails (split_each true (operands_of operands) a holds fails) old e
  unfolding split
  all_and_fail operands zero e h = h
  all_and_fail [] (suc i) e h = h
  all_and_fail (FOperand test rest ∷ operands) (suc i) e h = fails_first (split_each true (operands_of operands) a holds fails) (λ later. and_code (FOperand test rest) a fails later) old old old (Jumps holds) 0 e (all_and_fail operands i e h)

  pub all_or_fail : (operands : List PlainOperand) (i : ℕ) (e : SplitError) → Fails (split_each false (operands_of (drop i operands)) a holds fails) old e → Fails (split_each false (operands_of operands) a holds fails) old e
  unfolding split
  all_or_fail operands zero e h = h
  all_or_fail [] (suc i) e h = h
  all_or_fail (FOperand test rest ∷ operands) (suc i) e h = fails_first (split_each false (operands_of operands) a holds fails) (λ later. or_code (FOperand test rest) a holds later) old old old (Jumps holds) 0 e (all_or_fail operands i e h)

  pub and_fail_from : (operands : List PlainOperand) (i : ℕ) (operand : PlainOperand) (more : List PlainOperand) (mid : List PlainBlock) (r : Rest) (k : ℕ) (e : SplitError) → drop i operands ≡ operand ∷ more → Made (split_each true (operands_of more) a holds fails) old mid r k
      → Fails (and_code operand a fails r) mid e → Fails (split_each true (operands_of operands) a holds fails) old e
  and_fail_from operands i operand more mid r k e from p q = all_and_fail operands i e (subst (λ l. Fails (split_each true (operands_of l) a holds fails) old e) (sym from) (and_fails operand more mid r k e p q))

  pub or_fail_from : (operands : List PlainOperand) (i : ℕ) (operand : PlainOperand) (more : List PlainOperand) (mid : List PlainBlock) (r : Rest) (k : ℕ) (e : SplitError) → drop i operands ≡ operand ∷ more → Made (split_each false (operands_of more) a holds fails) old mid r k
      → Fails (or_code operand a holds r) mid e → Fails (split_each false (operands_of operands) a holds fails) old e
  or_fail_from operands i operand more mid r k e from p q = all_or_fail operands i e (subst (λ l. Fails (split_each false (operands_of l) a holds fails) old e) (sym from) (or_fails operand more mid r k e p q))
