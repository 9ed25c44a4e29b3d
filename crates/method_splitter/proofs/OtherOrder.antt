-- Lists that are turned, from their last element on, and the statements of an item.
use Rattle.std.proofs.Common.{◌≡◌, ℕ, zero, suc, ◌+◌, ◌<◌, ◌≤◌, arith, Bool, true, false, not, ◌↔◌, Some, List, [], ◌∷◌, ◌++◌, length, map, take, drop, reverse, slice_get, slice_set, get_or, length-append, append_assoc, append-nil, refl, sym, ap, ◌∙◌, true≢false}
use Rattle.std.proofs.Math.ListN.{drop_of_length-le}
use Rattle.std.proofs.lemmas.List.{take_all, take_more, drop_all, map-append, reverse-append}
use Rattle.std.proofs.lemmas.Option.{get_or_from_slice_get}
use Rattle.py_tree.specs.declared.stmt.Stmt.{Stmt}
use Rattle.py_tree.specs.PlainStatements.{PlainStmt, PlainStmts, PNoStmt, PStmt, plain_stmt, plain_stmts, stmts_of}
use Rattle.block_code.specs.declared.item.Item.{Item}
use Rattle.block_code.specs.PlainBlocks.{PlainItem, IMark, ISet, IPut, IGive, IFail, ICode, plain_item, plain_items}
use Rattle.block_code.specs.GraphFits.{takes_step}
use Rattle.method_splitter.specs.Rests.{onto, turned, with_statement, is_code, begins_with_code, code_from_end}

-- the last element
pub last_is : {A : Type 0} (xs : List A) (i : ℕ) (x : A) → i + 1 ≡ length xs → slice_get xs i ≡ Some x → xs ≡ take i xs ++ x ∷ []
last_is xs i x count value =
    let past : length xs ≤ i + 1 = omega (arith, count) in
    let below : i < length xs = omega (arith, count) in
    sym (take_all (i + 1) xs past) ∙ take_more xs i x below ∙ ap (λ v. take i xs ++ v ∷ []) (get_or_from_slice_get xs i x x value)

-- and where it is taken off
pub last_off : {A : Type 0} (xs rest : List A) (i : ℕ) (x : A) → i + 1 ≡ length xs → slice_get xs i ≡ Some x → rest ≡ take i xs ++ drop (i + 1) xs → xs ≡ rest ++ x ∷ []
last_off xs rest i x count value is =
    let past : length xs ≤ i + 1 = omega (arith, count) in
    let rest_is : rest ≡ take i xs = is ∙ ap (λ l. take i xs ++ l) (drop_of_length-le xs past) ∙ append-nil (take i xs) in
    last_is xs i x count value ∙ ap (λ l. l ++ x ∷ []) (sym rest_is)

-- and where another takes its place
set_last : {A : Type 0} (front : List A) (x y : A) → slice_set (front ++ x ∷ []) (length front) y ≡ front ++ y ∷ []
set_last [] x y = refl
set_last (z ∷ front) x y = ap (λ l. z ∷ l) (set_last front x y)

pub last_set : {A : Type 0} (xs front : List A) (i : ℕ) (x y : A) → xs ≡ front ++ x ∷ [] → i + 1 ≡ length xs → slice_set xs i y ≡ front ++ y ∷ []
last_set xs front i x y is count =
    let long : length xs ≡ length front + 1 = ap length is ∙ length-append front (x ∷ []) in
    let here : i ≡ length front = omega (arith, count, long) in
    (λ j. slice_set (is j) (here j) y) ∙ set_last front x y

pub one_less : {A : Type 0} (xs rest : List A) (x : A) (i : ℕ) → i + 1 ≡ length xs → xs ≡ rest ++ x ∷ [] → i ≡ length rest
one_less xs rest x i count is =
    let long : length xs ≡ length rest + 1 = ap length is ∙ length-append rest (x ∷ []) in
    omega (arith, count, long)

pub turned_more : {A : Type 0} (made more xs rest all : List A) (x : A) → made ++ reverse xs ≡ all → more ≡ made ++ x ∷ [] → xs ≡ rest ++ x ∷ [] → more ++ reverse rest ≡ all
turned_more made more xs rest all x so_far new is =
    ap (λ l. l ++ reverse rest) new ∙ append_assoc made (x ∷ []) (reverse rest) ∙ ap (λ l. made ++ l) (sym (ap reverse is ∙ reverse-append rest (x ∷ []))) ∙ so_far

pub turned_whole : {A : Type 0} (made xs all : List A) → length xs ≡ 0 → made ++ reverse xs ≡ all → made ≡ all
turned_whole made [] all none so_far = sym (append-nil made) ∙ so_far
turned_whole made (x ∷ xs) all none so_far = absurd (omega (arith, none))

pub map-reverse : {A B : Type 0} (f : A → B) (xs : List A) → map f (reverse xs) ≡ reverse (map f xs)
map-reverse f [] = refl
map-reverse f (x ∷ xs) =
    ap (map f) (reverse-append (x ∷ []) xs) ∙ map-append f (reverse xs) (x ∷ []) ∙ ap (λ l. l ++ f x ∷ []) (map-reverse f xs) ∙ sym (reverse-append (f x ∷ []) (map f xs))

-- Statements of an item

onto_list : (xs ys : List PlainStmt) → onto (stmts_of xs) (stmts_of ys) ≡ stmts_of (reverse xs ++ ys)
unfolding onto
onto_list [] ys = refl
onto_list (x ∷ xs) ys =
    onto_list xs (x ∷ ys) ∙ ap stmts_of (sym (append_assoc (reverse xs) (x ∷ []) ys)) ∙ ap (λ l. stmts_of (l ++ ys)) (sym (reverse-append (x ∷ []) xs))

pub statements_turned : (xs ys : List Stmt) → ys ≡ reverse xs → ICode (stmts_of (plain_stmts ys)) ≡ turned (ICode (stmts_of (plain_stmts xs)))
statements_turned xs ys is =
    ap (λ l. ICode (stmts_of (plain_stmts l))) is ∙ ap (λ l. ICode (stmts_of l)) (map-reverse _ xs ∙ sym (append-nil (reverse (plain_stmts xs)))) ∙ sym (ap ICode (onto_list (plain_stmts xs) []))

-- statements take steps in either order
steps_on : (xs ys : PlainStmts) (x : PlainStmt) → takes_step (ICode (onto xs (PStmt x ys))) ≡ true
unfolding onto
steps_on PNoStmt ys x = refl
steps_on (PStmt y xs) ys x = steps_on xs (PStmt x ys) y

pub code_steps : (xs : List Stmt) (empty : Bool) → (empty ≡ true) ↔ (xs ≡ []) → not empty ≡ takes_step (turned (ICode (stmts_of (plain_stmts xs))))
unfolding onto
code_steps [] true iff = refl
code_steps (x ∷ xs) true iff = absurd (omega (arith, ap length (iff.0 refl)))
code_steps [] false iff = sym (iff.1 refl)
code_steps (x ∷ xs) false iff = sym (steps_on (stmts_of (plain_stmts xs)) PNoStmt _)

-- one more statement at the end is one more before those that are turned
onto_last : (xs : List PlainStmt) (x : PlainStmt) (ys : PlainStmts) → onto (stmts_of (xs ++ x ∷ [])) ys ≡ PStmt x (onto (stmts_of xs) ys)
unfolding onto
onto_last [] x ys = refl
onto_last (y ∷ xs) x ys = onto_last xs x (PStmt y ys)

pub statement_before : (xs more : List Stmt) (x : Stmt) → more ≡ xs ++ x ∷ [] → turned (ICode (stmts_of (plain_stmts more))) ∷ [] ≡ with_statement (plain_stmt x) (turned (ICode (stmts_of (plain_stmts xs))) ∷ [])
statement_before xs more x is =
    ap (λ l. ICode (onto (stmts_of (plain_stmts l)) PNoStmt) ∷ []) is ∙ ap (λ l. ICode (onto (stmts_of l) PNoStmt) ∷ []) (map-append plain_stmt xs (x ∷ [])) ∙ ap (λ l. ICode l ∷ []) (onto_last (plain_stmts xs) (plain_stmt x) PNoStmt)

pub ruleset turning_laws = (statements_turned, code_steps, statement_before)

-- Items in turn

items_further : (items : List Item) (i : ℕ) (item made : Item) → i < length items → item ≡ get_or items i item → plain_item made ≡ turned (plain_item item)
    → take i (plain_items items) ++ map turned (drop i (plain_items items)) ≡ take (suc i) (plain_items (slice_set items i made)) ++ map turned (drop (suc i) (plain_items (slice_set items i made)))
items_further [] i item made within is one = absurd (omega arith)
items_further (x ∷ items) zero item made within is one = ap (λ y. turned (plain_item y) ∷ map turned (plain_items items)) (sym is) ∙ ap (λ p. p ∷ map turned (plain_items items)) (sym one)
items_further (x ∷ items) (suc i) item made within is one = ap (λ more. plain_item x ∷ more) (items_further items i item made (omega arith) is one)

pub items_more : (items more : List Item) (i : ℕ) (item made : Item) → i < length items → slice_get items i ≡ Some item → plain_item made ≡ turned (plain_item item) → more ≡ slice_set items i made
    → take i (plain_items items) ++ map turned (drop i (plain_items items)) ≡ take (i + 1) (plain_items more) ++ map turned (drop (i + 1) (plain_items more))
items_more items more i item made within value one sets =
    let next : suc i ≡ i + 1 = omega arith in
    items_further items i item made within (sym (get_or_from_slice_get items i item item value)) one ∙ (λ j. take (next j) (plain_items (sym sets j)) ++ map turned (drop (next j) (plain_items (sym sets j))))

pub items_all : (xs : List PlainItem) (i : ℕ) → length xs ≤ i → take i xs ++ map turned (drop i xs) ≡ xs
items_all xs i past = (λ j. take_all i xs past j ++ map turned (drop_all i xs past j)) ∙ append-nil xs

-- Code held in the other order begins with its last item

pub code_last : (items front : List Item) (item : Item) → items ≡ front ++ item ∷ [] → code_from_end items ≡ turned (plain_item item) ∷ code_from_end front
code_last items front item is =
    ap code_from_end is ∙ ap (λ l. reverse (map turned l)) (map-append plain_item front (item ∷ [])) ∙ ap reverse (map-append turned (plain_items front) (plain_item item ∷ [])) ∙ reverse-append (map turned (plain_items front)) (turned (plain_item item) ∷ [])

pub turned_is_code : (i : PlainItem) → is_code (turned i) ≡ is_code i
turned_is_code IMark = refl
turned_is_code (ISet x e) = refl
turned_is_code (IPut x e) = refl
turned_is_code (IGive e) = refl
turned_is_code (IFail kind e) = refl
turned_is_code (ICode xs) = refl

pub last_is_code : (items : List Item) (i : ℕ) (item : Item) → i + 1 ≡ length items → slice_get items i ≡ Some item → is_code (plain_item item) ≡ begins_with_code (code_from_end items)
last_is_code items i item count value =
    sym (turned_is_code (plain_item item)) ∙ sym (ap begins_with_code (code_last items (take i items) item (last_is items i item count value)))

pub has_items : (items : List Item) → begins_with_code (code_from_end items) ≡ true → 0 < length items
has_items [] is = absurd (true≢false (sym is))
has_items (x ∷ items) is = omega arith

-- a statement before the last item's is one before all
pub before_last : (items front : List Item) (item made : Item) (x : PlainStmt) → items ≡ front ++ item ∷ [] → is_code (plain_item item) ≡ true
    → turned (plain_item made) ∷ [] ≡ with_statement x (turned (plain_item item) ∷ []) → (more : List Item) → more ≡ front ++ made ∷ [] → code_from_end more ≡ with_statement x (code_from_end items)
before_last items front item made x is code one more sets =
    code_last more front made sets ∙ ap (λ l. l ++ code_from_end front) one ∙ by (turned (plain_item item)) (turned_is_code (plain_item item) ∙ code) ∙ sym (ap (with_statement x) (code_last items front item is))
  where
    by : (i : PlainItem) → is_code i ≡ true → with_statement x (i ∷ []) ++ code_from_end front ≡ with_statement x (i ∷ code_from_end front)
    by (ICode xs) so = refl
    by IMark not_so = absurd (true≢false (sym not_so))
    by (ISet y e) not_so = absurd (true≢false (sym not_so))
    by (IPut y e) not_so = absurd (true≢false (sym not_so))
    by (IGive e) not_so = absurd (true≢false (sym not_so))
    by (IFail kind e) not_so = absurd (true≢false (sym not_so))

-- where code doesn't begin with statements
pub before_others : (items more : List Item) (none stmts : List Stmt) (x : Stmt) (code : Item) → begins_with_code (code_from_end items) ≡ false → none ≡ [] → stmts ≡ none ++ x ∷ [] → plain_item code ≡ ICode (stmts_of (plain_stmts stmts)) → more ≡ items ++ code ∷ []
    → code_from_end more ≡ with_statement (plain_stmt x) (code_from_end items)
unfolding onto
before_others items more none stmts x code others empty is one sets =
    code_last more items code sets ∙ ap (λ i. turned i ∷ code_from_end items) (one ∙ ap (λ l. ICode (stmts_of (plain_stmts l))) (is ∙ ap (λ l. l ++ x ∷ []) empty)) ∙ by (code_from_end items) others
  where
    by : (is : List PlainItem) → begins_with_code is ≡ false → ICode (PStmt (plain_stmt x) PNoStmt) ∷ is ≡ with_statement (plain_stmt x) is
    by [] no_code = refl
    by (ICode xs ∷ is) no_code = absurd (true≢false no_code)
    by (IMark ∷ is) no_code = refl
    by (ISet y e ∷ is) no_code = refl
    by (IPut y e ∷ is) no_code = refl
    by (IGive e ∷ is) no_code = refl
    by (IFail kind e ∷ is) no_code = refl
