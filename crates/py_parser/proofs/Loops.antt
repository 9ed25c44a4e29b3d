-- A loop that reads an item at each turn: what follows the items so far makes the whole.
use Rattle.std.proofs.Common.{◌≡◌, ℕ, true, false, List, [], ◌∷◌, ◌++◌, Some, None, Err, refl, sym, ap, ◌∙◌, subst, append_assoc, map}
use Rattle.std.proofs.lemmas.List.{append-nil, map-append}
use Rattle.py_tree.specs.declared.expr.Expr.{Expr}
use Rattle.py_tree.specs.declared.expr.Link.{Link}
use Rattle.py_tree.specs.declared.expr.BinOp.{BinOp}
use Rattle.py_tree.specs.declared.fault.SyntaxFault.{SyntaxFault}
use Rattle.py_tree.specs.declared.terminal.Terminal.TheVariants as k
use Rattle.py_tree.specs.PlainExpressions.{PlainExpr, PlainLink, PLink, plain_expr, plain_link, plain_exprs, plain_links}
use Rattle.py_tree.specs.Reading.{Input, Outcome, found, stops, next, here, sees, addition, multiplication, begins_expr}
use Rattle.py_tree.specs.ExpressionGrammar.{IsWhole, IsOrs, IsAnd, IsAnds, IsNot, IsSums, IsTerm, IsTerms, IsUnary, IsMore, ors_end, ors_more_stops_x, ors_more_stops_xs, ors_more, ands_end, ands_more_stops_x, ands_more_stops_xs, ands_more, sums_end, sums_more_stops_x, sums_more_stops_ls, sums_more, terms_end, terms_more_stops_x, terms_more_stops_ls, terms_more, more_end, more_comma, more_is_stops_x, more_is_stops_xs, more_is}
use Rattle.py_parser.specs.declared.syntax_error.SyntaxError.{SyntaxError}
use Rattle.py_parser.specs.declared.syntax_error.SyntaxError.TheVariants as errors
use Rattle.py_parser.specs.Reads.{Comes}

-- the items so far, in front of what is read behind them
abbrev pub with_front : {A : Type 0} → List A → Outcome (List A) → Outcome (List A)
with_front front (found xs rest) = found (front ++ xs) rest
with_front front (stops f) = stops f

abbrev pub GoesOn : {A : Type 0} → (Input → Outcome (List A) → Type 0) → Input → Input → List A → Type 0
GoesOn {A} P start now items = (o : Outcome (List A)) → P now o → P start (with_front items o)

-- an item in front of what is read behind it
abbrev pub after_one : {A : Type 0} → A → Outcome (List A) → Outcome (List A)
after_one x (found xs rest) = found (x ∷ xs) rest
after_one x (stops f) = stops f

pub nothing_more : {A : Type 0} (P : Input → Outcome (List A) → Type 0) (start now rest : Input) (items : List A) → GoesOn P start now items → P now (found [] rest) → P start (found items rest)
nothing_more P start now rest items h e = subst (λ xs. P start (found xs rest)) (append-nil items) (h (found [] rest) e)

regrouped : {A : Type 0} (P : Input → Outcome (List A) → Type 0) (start : Input) (items : List A) (x : A) (o : Outcome (List A)) → P start (with_front items (after_one x o)) → P start (with_front (items ++ x ∷ []) o)
regrouped P start items x (found xs rest) h = rw append_assoc h
regrouped P start items x (stops f) h = h

-- an item is pushed, where it may stand in front of what is read behind it
pub pushed : {X A : Type 0} (view : X → A) (P : Input → Outcome (List A) → Type 0) (start now mid : Input) (items all : List X) (x : X) (y : A) → view x ≡ y → all ≡ items ++ x ∷ [] → GoesOn P start now (map view items) → ((o : Outcome (List A)) → P mid o → P now (after_one y o)) → GoesOn P start mid (map view all)
pushed {A = A} view P start now mid items all x y d e g one =
    let step : GoesOn P start mid (map view items ++ y ∷ []) = λ o rest. regrouped P start (map view items) y o (g (after_one y o) (one o rest)) in
    subst (λ xs. GoesOn P start mid xs) (sym (ap (map view) e ∙ map-append view items (x ∷ []) ∙ ap (λ z. map view items ++ z ∷ []) d)) step

ors_one_more : (n : ℕ) (now mid : Input) (x : PlainExpr) (o : Outcome (List PlainExpr)) → sees k.Or now ≡ true → IsAnd n (next now) (found x mid) → IsOrs n mid o → IsOrs n now (after_one x o)
ors_one_more n now mid x (found xs rest) h0 u h = ors_more h0 u h
ors_one_more n now mid x (stops f) h0 u h = ors_more_stops_xs h0 u h

pub ors_done : (n : ℕ) (start now : Input) (items : List PlainExpr) → GoesOn (IsOrs n) start now items → sees k.Or now ≡ false → IsOrs n start (found items now)
ors_done n start now items g h = nothing_more (IsOrs n) start now now items g (ors_end h)

pub ors_pushed : (n : ℕ) (start now mid : Input) (items all : List Expr) (x : Expr) → GoesOn (IsOrs n) start now (plain_exprs items) → sees k.Or now ≡ true → IsAnd n (next now) (found (plain_expr x) mid) → all ≡ items ++ x ∷ [] → GoesOn (IsOrs n) start mid (plain_exprs all)
ors_pushed n start now mid items all x g h0 u e = pushed plain_expr (IsOrs n) start now mid items all x (plain_expr x) refl e g (λ o rest. ors_one_more n now mid (plain_expr x) o h0 u rest)

pub ors_stopped : (n : ℕ) (start now : Input) (items : List PlainExpr) (f : SyntaxFault) → GoesOn (IsOrs n) start now items → sees k.Or now ≡ true → IsAnd n (next now) (stops f) → IsOrs n start (stops f)
ors_stopped n start now items f g h0 u = g (stops f) (ors_more_stops_x h0 u)

ands_one_more : (n : ℕ) (now mid : Input) (x : PlainExpr) (o : Outcome (List PlainExpr)) → sees k.And now ≡ true → IsNot n (next now) (found x mid) → IsAnds n mid o → IsAnds n now (after_one x o)
ands_one_more n now mid x (found xs rest) h0 u h = ands_more h0 u h
ands_one_more n now mid x (stops f) h0 u h = ands_more_stops_xs h0 u h

pub ands_done : (n : ℕ) (start now : Input) (items : List PlainExpr) → GoesOn (IsAnds n) start now items → sees k.And now ≡ false → IsAnds n start (found items now)
ands_done n start now items g h = nothing_more (IsAnds n) start now now items g (ands_end h)

pub ands_pushed : (n : ℕ) (start now mid : Input) (items all : List Expr) (x : Expr) → GoesOn (IsAnds n) start now (plain_exprs items) → sees k.And now ≡ true → IsNot n (next now) (found (plain_expr x) mid) → all ≡ items ++ x ∷ [] → GoesOn (IsAnds n) start mid (plain_exprs all)
ands_pushed n start now mid items all x g h0 u e = pushed plain_expr (IsAnds n) start now mid items all x (plain_expr x) refl e g (λ o rest. ands_one_more n now mid (plain_expr x) o h0 u rest)

pub ands_stopped : (n : ℕ) (start now : Input) (items : List PlainExpr) (f : SyntaxFault) → GoesOn (IsAnds n) start now items → sees k.And now ≡ true → IsNot n (next now) (stops f) → IsAnds n start (stops f)
ands_stopped n start now items f g h0 u = g (stops f) (ands_more_stops_x h0 u)

sums_one_more : {w : BinOp} (n : ℕ) (now mid : Input) (x : PlainExpr) (o : Outcome (List PlainLink)) → addition now ≡ Some w → IsTerm n (next now) (found x mid) → IsSums n mid o → IsSums n now (after_one (PLink w (here now) x) o)
sums_one_more {w = w} n now mid x (found xs rest) h u more = sums_more h u more
sums_one_more {w = w} n now mid x (stops f) h u more = sums_more_stops_ls h u more

pub sums_done : (n : ℕ) (start now : Input) (items : List PlainLink) → GoesOn (IsSums n) start now items → addition now ≡ None → IsSums n start (found items now)
sums_done n start now items g h = nothing_more (IsSums n) start now now items g (sums_end h)

pub sums_pushed : {w : BinOp} (n : ℕ) (start now mid : Input) (items all : List Link) (l : Link) (x : Expr) → GoesOn (IsSums n) start now (plain_links items) → addition now ≡ Some w → IsTerm n (next now) (found (plain_expr x) mid) → plain_link l ≡ PLink w (here now) (plain_expr x) → all ≡ items ++ l ∷ [] → GoesOn (IsSums n) start mid (plain_links all)
sums_pushed {w = w} n start now mid items all l x g h u d e = pushed plain_link (IsSums n) start now mid items all l (PLink w (here now) (plain_expr x)) d e g (λ o rest. sums_one_more {w = w} n now mid (plain_expr x) o h u rest)

pub sums_stopped : {w : BinOp} (n : ℕ) (start now : Input) (items : List PlainLink) (f : SyntaxFault) → GoesOn (IsSums n) start now items → addition now ≡ Some w → IsTerm n (next now) (stops f) → IsSums n start (stops f)
sums_stopped {w = w} n start now items f g h u = g (stops f) (sums_more_stops_x h u)

pub sums_fails : (n : ℕ) (start now after mid new : Input) (items : List PlainLink) (w : BinOp) (e : SyntaxError) → GoesOn (IsSums n) start now items → Some w ≡ addition now → after ≡ next now → Comes plain_expr (IsTerm n after) (Err e) mid → Comes plain_links (IsSums n start) (Err e) new
sums_fails n start now after mid new items w errors.NoMemory g h s u = tt
sums_fails n start now after mid new items w (errors.Fault f) g h s u = sums_stopped {w = w} n start now items f g (sym h) (subst (λ (i : Input). IsTerm n i (stops f)) s u)

terms_one_more : {w : BinOp} (n : ℕ) (now mid : Input) (x : PlainExpr) (o : Outcome (List PlainLink)) → multiplication now ≡ Some w → IsUnary n (next now) (found x mid) → IsTerms n mid o → IsTerms n now (after_one (PLink w (here now) x) o)
terms_one_more {w = w} n now mid x (found xs rest) h u more = terms_more h u more
terms_one_more {w = w} n now mid x (stops f) h u more = terms_more_stops_ls h u more

pub terms_done : (n : ℕ) (start now : Input) (items : List PlainLink) → GoesOn (IsTerms n) start now items → multiplication now ≡ None → IsTerms n start (found items now)
terms_done n start now items g h = nothing_more (IsTerms n) start now now items g (terms_end h)

pub terms_pushed : {w : BinOp} (n : ℕ) (start now mid : Input) (items all : List Link) (l : Link) (x : Expr) → GoesOn (IsTerms n) start now (plain_links items) → multiplication now ≡ Some w → IsUnary n (next now) (found (plain_expr x) mid) → plain_link l ≡ PLink w (here now) (plain_expr x) → all ≡ items ++ l ∷ [] → GoesOn (IsTerms n) start mid (plain_links all)
terms_pushed {w = w} n start now mid items all l x g h u d e = pushed plain_link (IsTerms n) start now mid items all l (PLink w (here now) (plain_expr x)) d e g (λ o rest. terms_one_more {w = w} n now mid (plain_expr x) o h u rest)

pub terms_stopped : {w : BinOp} (n : ℕ) (start now : Input) (items : List PlainLink) (f : SyntaxFault) → GoesOn (IsTerms n) start now items → multiplication now ≡ Some w → IsUnary n (next now) (stops f) → IsTerms n start (stops f)
terms_stopped {w = w} n start now items f g h u = g (stops f) (terms_more_stops_x h u)

pub terms_fails : (n : ℕ) (start now after mid new : Input) (items : List PlainLink) (w : BinOp) (e : SyntaxError) → GoesOn (IsTerms n) start now items → Some w ≡ multiplication now → after ≡ next now → Comes plain_expr (IsUnary n after) (Err e) mid → Comes plain_links (IsTerms n start) (Err e) new
terms_fails n start now after mid new items w errors.NoMemory g h s u = tt
terms_fails n start now after mid new items w (errors.Fault f) g h s u = terms_stopped {w = w} n start now items f g (sym h) (subst (λ (i : Input). IsUnary n i (stops f)) s u)

more_one_more : (n : ℕ) (now mid : Input) (x : PlainExpr) (o : Outcome (List PlainExpr)) → sees k.Comma now ≡ true → begins_expr (next now) ≡ true → IsWhole n (next now) (found x mid) → IsMore n mid o → IsMore n now (after_one x o)
more_one_more n now mid x (found xs rest) h0 h1 u h = more_is h0 h1 u h
more_one_more n now mid x (stops f) h0 h1 u h = more_is_stops_xs h0 h1 u h

pub more_done : (n : ℕ) (start now : Input) (items : List PlainExpr) → GoesOn (IsMore n) start now items → sees k.Comma now ≡ false → IsMore n start (found items now)
more_done n start now items g h = nothing_more (IsMore n) start now now items g (more_end h)

pub more_pushed : (n : ℕ) (start now mid : Input) (items all : List Expr) (x : Expr) → GoesOn (IsMore n) start now (plain_exprs items) → sees k.Comma now ≡ true → begins_expr (next now) ≡ true → IsWhole n (next now) (found (plain_expr x) mid) → all ≡ items ++ x ∷ [] → GoesOn (IsMore n) start mid (plain_exprs all)
more_pushed n start now mid items all x g h0 h1 u e = pushed plain_expr (IsMore n) start now mid items all x (plain_expr x) refl e g (λ o rest. more_one_more n now mid (plain_expr x) o h0 h1 u rest)

pub more_stopped : (n : ℕ) (start now : Input) (items : List PlainExpr) (f : SyntaxFault) → GoesOn (IsMore n) start now items → sees k.Comma now ≡ true → begins_expr (next now) ≡ true → IsWhole n (next now) (stops f) → IsMore n start (stops f)
more_stopped n start now items f g h0 h1 u = g (stops f) (more_is_stops_x h0 h1 u)

pub more_trailing : (n : ℕ) (start now : Input) (items : List PlainExpr) → GoesOn (IsMore n) start now items → sees k.Comma now ≡ true → begins_expr (next now) ≡ false → IsMore n start (found items (next now))
more_trailing n start now items g h h1 = nothing_more (IsMore n) start now (next now) items g (more_comma h h1)

pub ruleset ors_loop = (ors_done, ors_pushed, ors_stopped)

pub ruleset ands_loop = (ands_done, ands_pushed, ands_stopped)

pub ruleset sums_loop = (sums_done, sums_pushed, sums_stopped)

pub ruleset terms_loop = (terms_done, terms_pushed, terms_stopped)

pub ruleset more_loop = (more_done, more_pushed, more_stopped, more_trailing)
