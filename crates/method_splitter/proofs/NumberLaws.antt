-- Blocks that are made one behind another.
use Rattle.std.proofs.Common.{◌≡◌, ℕ, zero, suc, ◌+◌, ◌≤◌, arith, List, [], ◌∷◌, ◌++◌, length, map, slice_set, length-append, append_assoc, append-nil, refl, sym, ap, ◌∙◌}
use Rattle.sf_list.specs.Copies.{AreCopies}
use Rattle.sf_list.proofs.CopyLaws.{map-AreCopies}
use Rattle.block_code.specs.declared.vars.VarType.{VarType}
use Rattle.block_code.specs.PlainVars.{plain_var, plain_vars}
use Rattle.block_code.specs.PlainBlocks.{PlainBlock}
use Rattle.method_splitter.specs.declared.fault.SplitError.{SplitError}
use Rattle.method_splitter.specs.declared.fault.SplitError.TheVariants.{TooManyBlocks, NoMemory}
use Rattle.method_splitter.specs.Split.{Around, Numbered, plain, ◌and_then◌}
use Rattle.method_splitter.proofs.RestsRun.{at_most}
use Rattle.method_splitter.specs.Numbering.{Ready, AroundReady, Made, Fails}

pub copied_vars : (xs ys : List VarType) → AreCopies (λ old made. plain_var made ≡ plain_var old) xs ys → plain_vars ys ≡ plain_vars xs
copied_vars xs ys h = map-AreCopies (λ old made. plain_var made ≡ plain_var old) plain_var (λ x y e. e) xs ys h

-- One and then another

module _ {A B : Type 0} (m : Numbered A) (f : A → Numbered B) (old mid new : List PlainBlock) (x : A) (k : ℕ) where
  next_number : Made m old mid x k → length mid ≡ length old + length (m (length old)).made
  next_number p = ap length p.blocks ∙ length-append old (m (length old)).made

  pub made_then : Made m old mid x k → (y : B) (r : ℕ) → Made (f x) mid new y r → Made (m and_then f) old new y r
  made_then p y r q =
      let at : length mid ≡ length old + length (m (length old)).made = next_number p in
      record {
        blocks = q.blocks ∙ (λ i. p.blocks i ++ (f (p.is i) (at i)).made) ∙ append_assoc old (m (length old)).made _;
        is = q.is ∙ (λ i. (f (p.is i) (at i)).got);
        ready = q.ready;
      }

  pub fails_then : Made m old mid x k → (e : SplitError) → Fails (f x) mid e → Fails (m and_then f) old e
  fails_then p NoMemory h = tt
  fails_then p TooManyBlocks h =
      let first = m (length old) in
      let at : length mid ≡ length old + length first.made = next_number p in
      let second : ℕ → List PlainBlock = λ n. (f first.got n).made in
      let same : length (f x (length mid)).made ≡ length (second (length old + length first.made)) = (λ i. length (f (p.is i) (at i)).made) in
      let long : length (first.made ++ second (length old + length first.made)) ≡ length first.made + length (second (length old + length first.made)) = length-append first.made _ in
      omega (arith, h, at, same, long)

  pub fails_first : (e : SplitError) → Fails m old e → Fails (m and_then f) old e
  fails_first NoMemory h = tt
  fails_first TooManyBlocks h =
      let first = m (length old) in
      let second : List PlainBlock = (f first.got (length old + length first.made)).made in
      let long : length (first.made ++ second) ≡ length first.made + length second = length-append first.made second in
      omega (arith, h, long)

-- what makes no block
pub made_plain : {A : Type 0} (x y : A) (old : List PlainBlock) (k : ℕ) → y ≡ x → Ready old k → Made (plain x) old old y k
made_plain x y old k is ready = record { blocks = sym (append-nil old); is = is; ready = ready }

pub map-slice_set : {A B : Type 0} (f : A → B) (xs : List A) (i : ℕ) (x : A) → map f (slice_set xs i x) ≡ slice_set (map f xs) i (f x)
map-slice_set f [] i x = refl
map-slice_set f (y ∷ xs) zero x = refl
map-slice_set f (y ∷ xs) (suc i) x = ap (λ l. f y ∷ l) (map-slice_set f xs i x)

-- Behind what was there there is more

module _ {A : Type 0} (m : Numbered A) (old new : List PlainBlock) (x : A) (k : ℕ) (p : Made m old new x k) where
  pub longer : length old ≤ length new
  longer =
      let long : length new ≡ length old + length (m (length old)).made = ap length p.blocks ∙ length-append old (m (length old)).made in
      omega (arith, long)

  pub ready_later : (r : ℕ) → Ready old r → Ready new r
  ready_later r ready = record { few = p.ready.few; low = at_most ready.low longer }

  pub around_later : (a : Around) → AroundReady old a → AroundReady new a
  around_later a ready = record { breaks = at_most ready.breaks longer; continues = at_most ready.continues longer; catches = at_most ready.catches longer }
