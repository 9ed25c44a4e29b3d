-- What is left of a block fits where what is asked of it is so, and a block that is made of it fits. The points where its catches lead
-- are supplied all the time.
use Rattle.std.proofs.Common.{◌≡◌, ℕ, Bool, true, false, Option, Some, None, List, [], ◌∷◌, ◌++◌, refl, sym, ap, ◌∙◌, subst, true≢false}
use Rattle.std.specs.Prelude.{IfSome, slice_get, is_some}
use Rattle.std.specs.List.{All}
use Rattle.std.specs.Cmp.Derive.{both_true as both_hold}
use Rattle.std.proofs.lemmas.List.Elements.{All-nil, All-cons, All-append}
use Rattle.py_tree.specs.PlainTypes.{PlainTy}
use Rattle.py_tree.specs.PlainExpressions.{PlainExpr}
use Rattle.py_tree.specs.PlainStatements.{PlainStmt, PlainStmts, PNoStmt, PStmt}
use Rattle.py_tree.specs.FlowEnvironment.{PlainLocal, shown, narrowed}
use Rattle.py_tree.specs.Reachability.{goes_on, all_go_on}
use Rattle.py_tree.specs.Flow.{Context, with_local}
use Rattle.call_graph.specs.SuspendingCode.{Leaving}
use Rattle.program_meaning.proofs.TypedParts.{both_true}
use Rattle.program_meaning.proofs.LocalShapes.{is_typed, shapes_narrowed}
use Rattle.block_code.specs.PlainVars.{PlainVar}
use Rattle.block_code.specs.PlainBlocks.{PlainItem, IMark, ISet, IPut, IGive, IFail, ICode, PlainEnd, PlainCatch, PlainBlock}
use Rattle.block_code.specs.GraphFits.{Asked, at_start, each_once, Takes, CodeFits, ItemFits, ItemsFit, AtEachItem, Leads, EndFits}
use Rattle.flat_tree.specs.PlainFlat.{Point}
use Rattle.method_splitter.specs.Points.{Passes}
use Rattle.method_splitter.specs.Split.{Target, Rest, Jumps, Holds, code_of, end_of, Caught, Around, catches_in, rank_in, block, leave, front, front_code, coded, branch, lodge, homed, joined, outlet}
use Rattle.method_splitter.proofs.RestsRun.{StandAt, stand_first}
use Rattle.flat_types.specs.FlatTypes.{is_point, Supplies, Nowhere, Ends, BehindEnd, Guarded, AreKinds, TestedFits}
use Rattle.flat_types.proofs.FlowStays.{shapes_with}
use Rattle.flat_types.proofs.CodeJoins.{code_stays, code_joins}
use Rattle.flat_types.proofs.GuardLaws.{guarded_front, guarded_mark, guarded_code}
use Rattle.flat_types.proofs.PointLaws.{AreVariables, start_variables, supplies_on}

-- a variable gets a value
pub takes_variables : (variables : List PlainVar) (locals : List PlainLocal) (x : ℕ) (ty : PlainTy) (goal : Asked) → Takes locals x ty goal → AreVariables variables locals → AreVariables variables (with_local x ty ty locals)
takes_variables variables locals x ty goal t are = shapes_with x ty ty locals (sym (is_typed locals x) ∙ ap is_some t.is) ∙ are

pub takes_on : (variables : List PlainVar) (locals : List PlainLocal) (x : ℕ) (ty : PlainTy) (goal next : Asked) → AreVariables variables locals → ((after : List PlainLocal) → AreVariables variables after → goal after → next after) → Takes locals x ty goal → Takes locals x ty next
takes_on variables locals x ty goal next are on t = record { local = t.local; is = t.is; suits = t.suits; goes = on (with_local x ty ty locals) (takes_variables variables locals x ty goal t are) t.goes }

-- blocks of a method with these variables, each of which has a point as its parameters
module _ (c : Context) (leaves : Leaving) (variables : List PlainVar) (outside : c.in_loop ≡ false) (once : each_once variables ≡ true) (g : List PlainBlock)
    (points : (k : ℕ) (b : PlainBlock) → slice_get g k ≡ Some b → is_point variables b.params ≡ true) where
  -- a jump evaluates nothing, so no failure comes of it
  abbrev pub RestGuarded : List Point → Rest → Asked
  RestGuarded ps (Jumps to) locals = Unit {0}
  RestGuarded ps (Holds code end rank) locals = Guarded c ps code locals

  abbrev pub RestFits : List Point → Rest → Asked
  RestFits ps r locals = ItemsFit c leaves (code_of r) (EndFits c leaves g (end_of r)) locals × RestGuarded ps r locals

  -- a rest fits wherever this is so
  abbrev pub Meets : List Point → Asked → Rest → Type 0
  Meets ps goal r = (locals : List PlainLocal) → AreVariables variables locals → goal locals → RestFits ps r locals

  -- it does with any catches: it is a jump, or nowhere is this so
  abbrev pub MeetsFreely : Asked → Rest → Type 0
  MeetsFreely goal (Jumps to) = (locals : List PlainLocal) → AreVariables variables locals → goal locals → Leads g to.number locals
  MeetsFreely goal (Holds code end rank) = (locals : List PlainLocal) → goal locals → ⊥

  pub freely_meets : (ps : List Point) (goal : Asked) (r : Rest) → MeetsFreely goal r → Meets ps goal r
  unfolding ItemsFit
  freely_meets ps goal (Jumps to) m locals are h = (m locals are h, tt)
  freely_meets ps goal (Holds code end rank) m locals are h = absurd (m locals h)

  -- Items

  code_on : (locals : List PlainLocal) (xs : PlainStmts) (goal next : Asked) → AreVariables variables locals → ((after : List PlainLocal) → AreVariables variables after → goal after → next after) → CodeFits c leaves locals xs goal → CodeFits c leaves locals xs next
  code_on locals xs goal next are on f = record { way = f.way; flows = f.flows; assigns = f.assigns; raises = f.raises; stays = f.stays; goes = λ e. on f.way.locals (code_stays c leaves locals xs goal f ∙ are) (f.goes e) }

  item_on : (i : PlainItem) (goal next : Asked) (locals : List PlainLocal) → AreVariables variables locals → ((after : List PlainLocal) → AreVariables variables after → goal after → next after) → ItemFits c leaves i goal locals → ItemFits c leaves i next locals
  item_on IMark goal next locals are on f = on locals are f
  item_on (ISet x e) goal next locals are on f = (f.0, f.1, takes_on variables locals x f.0 goal next are on f.2)
  item_on (IPut x e) goal next locals are on f = (f.0, on locals are f.1)
  item_on (IGive e) goal next locals are on f = f
  item_on (IFail kind e) goal next locals are on f = f
  item_on (ICode xs) goal next locals are on f = code_on locals xs goal next are on f

  pub front_fits : (ps : List Point) (i : PlainItem) (r : Rest) (goal : Asked) (locals : List PlainLocal) → AreVariables variables locals → Meets ps goal r → ItemFits c leaves i goal locals → Guarded c ps (i ∷ []) locals → RestFits ps (front i r) locals
  unfolding ItemsFit
  front_fits ps i (Jumps to) goal locals are m f h = (item_on i goal _ locals are (λ after are asked. (m after are asked).0) f, h)
  front_fits ps i (Holds code end rank) goal locals are m f h = (
    item_on i goal _ locals are (λ after are asked. (m after are asked).0) f,
    guarded_front c leaves ps i code locals h (λ next on. item_on i goal next locals are (λ after are asked. on after (m after are asked).1) f),
  )

  -- before the end of the method, where no way leads
  pub last_fits : (ps : List Point) (i : PlainItem) (locals : List PlainLocal) → AreVariables variables locals → ItemFits c leaves i Nowhere locals → Guarded c ps (i ∷ []) locals → RestFits ps (front i leave) locals
  unfolding ItemsFit
  last_fits ps i locals are f h = (item_on i Nowhere _ locals are (λ after are nowhere. absurd nowhere) f, h)

  pub mark_fits : (ps : List Point) (r : Rest) (locals : List PlainLocal) → Guarded c ps [] locals → RestFits ps r locals → RestFits ps (front IMark r) locals
  unfolding ItemsFit
  mark_fits ps (Jumps to) locals here f = (f.0, guarded_mark c leaves ps [] locals here here)
  mark_fits ps (Holds code end rank) locals here f = (f.0, guarded_mark c leaves ps code locals here f.1)

  code_fits : (ps : List Point) (x : PlainStmt) (r : Rest) (goal : Asked) (locals : List PlainLocal) → goes_on x ≡ true → AreVariables variables locals → Meets ps goal r → CodeFits c leaves locals (PStmt x PNoStmt) goal → Guarded c ps (ICode (PStmt x PNoStmt) ∷ []) locals
      → RestFits ps (front_code x r) locals
  unfolding ItemsFit all_go_on
  code_fits ps x (Jumps to) goal locals on are m f h = front_fits ps (ICode (PStmt x PNoStmt)) (Jumps to) goal locals are m f h
  code_fits ps x (Holds [] end rank) goal locals on are m f h = front_fits ps (ICode (PStmt x PNoStmt)) (Holds [] end rank) goal locals are m f h
  code_fits ps x (Holds (ICode xs ∷ is) end rank) goal locals on are m f h = (
    code_joins c leaves outside locals x xs (ItemsFit c leaves is (EndFits c leaves g end)) on goal f (λ after same asked. (m after (same ∙ are) asked).0),
    guarded_code c leaves outside ps x xs is goal locals on f h (m f.way.locals (code_stays c leaves locals (PStmt x PNoStmt) goal f ∙ are) (f.goes (both_hold on refl))).1,
  )
  code_fits ps x (Holds (IMark ∷ is) end rank) goal locals on are m f h = front_fits ps (ICode (PStmt x PNoStmt)) (Holds (IMark ∷ is) end rank) goal locals are m f h
  code_fits ps x (Holds (ISet y e ∷ is) end rank) goal locals on are m f h = front_fits ps (ICode (PStmt x PNoStmt)) (Holds (ISet y e ∷ is) end rank) goal locals are m f h
  code_fits ps x (Holds (IPut y e ∷ is) end rank) goal locals on are m f h = front_fits ps (ICode (PStmt x PNoStmt)) (Holds (IPut y e ∷ is) end rank) goal locals are m f h
  code_fits ps x (Holds (IGive e ∷ is) end rank) goal locals on are m f h = front_fits ps (ICode (PStmt x PNoStmt)) (Holds (IGive e ∷ is) end rank) goal locals are m f h
  code_fits ps x (Holds (IFail kind e ∷ is) end rank) goal locals on are m f h = front_fits ps (ICode (PStmt x PNoStmt)) (Holds (IFail kind e ∷ is) end rank) goal locals are m f h

  pub coded_fits : (ps : List Point) (b : Bool) (x : PlainStmt) (r : Rest) (goal : Asked) (locals : List PlainLocal) → goes_on x ≡ b → AreVariables variables locals → Meets ps goal r → CodeFits c leaves locals (PStmt x PNoStmt) goal → Guarded c ps (ICode (PStmt x PNoStmt) ∷ []) locals
      → RestFits ps (coded b x r) locals
  unfolding all_go_on
  coded_fits ps true x r goal locals on are m f h = code_fits ps x r goal locals on are m f h
  coded_fits ps false x r goal locals off are m f h =
      last_fits ps _ locals are
      (record { way = f.way; flows = f.flows; assigns = f.assigns; raises = f.raises; stays = f.stays; goes = λ e. absurd (true≢false (sym (both_true (goes_on x) true e).0 ∙ off)) }) h

  -- Blocks

  -- what a graph that fits asks of a catch, but for ranks and parameters
  pub record CatchMeets (b : PlainBlock) (k : PlainCatch) : Type 0 where
    pub kinds : AreKinds k.kinds
    pub target : PlainBlock
    pub is : slice_get g k.to ≡ Some target
    pub always : AtEachItem (Supplies target.params) c b.code (at_start variables b.params)

  pub record Fine (b : PlainBlock) : Type 0 where
    pub fits : ItemsFit c leaves b.code (EndFits c leaves g b.end) (at_start variables b.params)
    pub catches : All (CatchMeets b) b.catches

  abbrev pub AllFine : List PlainBlock → Type 0
  AllFine bs = All Fine bs

  pub none_made : AllFine []
  none_made = All-nil Fine

  pub more_made : (b : PlainBlock) (bs : List PlainBlock) → Fine b → AllFine bs → AllFine (b ∷ bs)
  more_made b bs first rest = All-cons Fine b bs first rest

  pub both_made : (xs ys : List PlainBlock) → AllFine xs → AllFine ys → AllFine (xs ++ ys)
  both_made xs ys first second = All-append Fine xs ys first second

  -- failures go on at a block whose parameters are this point
  pub record IsCaughtAt (k : Caught) (p : Point) : Type 0 where
    pub kinds : AreKinds k.kinds
    pub target : PlainBlock
    pub is : slice_get g k.to.number ≡ Some target
    pub params : target.params ≡ p

  abbrev pub AreCaughtAt : List Caught → List Point → Type 0
  AreCaughtAt [] [] = Unit {0}
  AreCaughtAt (k ∷ ks) (p ∷ ps) = IsCaughtAt k p × AreCaughtAt ks ps
  AreCaughtAt _ _ = ⊥

  catches_meet : (b : PlainBlock) (ks : List Caught) (ps : List Point) → AreCaughtAt ks ps → Guarded c ps b.code (at_start variables b.params) → All (CatchMeets b) (catches_in ks)
  catches_meet b [] [] at h = All-nil (CatchMeets b)
  catches_meet b [] (p ∷ ps) at h = absurd at
  catches_meet b (k ∷ ks) [] at h = absurd at
  catches_meet b (k ∷ ks) (p ∷ ps) at h =
      let first : IsCaughtAt k p = at.0 in
      All-cons (CatchMeets b) _ (catches_in ks)
      (record { kinds = first.kinds; target = first.target; is = first.is; always = subst (λ q. AtEachItem (Supplies q) c b.code (at_start variables b.params)) (sym first.params) h.0 })
      (catches_meet b ks ps at.1 h.1)

  -- of code and an end
  held_fine : (ps : List Point) (a : Around) (point : Point) (code : List PlainItem) (end : PlainEnd) (rank : ℕ) → AreCaughtAt a.catches ps → RestFits ps (Holds code end rank) (at_start variables point) → Fine (block a point (Holds code end rank))
  held_fine ps a point code end rank at f = record { fits = f.0; catches = catches_meet (block a point (Holds code end rank)) a.catches ps at f.1 }

  -- of any rest, where the points of catches are supplied at the start
  pub block_fine : (ps : List Point) (a : Around) (point : Point) (r : Rest) → AreCaughtAt a.catches ps → Guarded c ps [] (at_start variables point) → RestFits ps r (at_start variables point) → Fine (block a point r)
  block_fine ps a point (Jumps to) at here f = record { fits = f.0; catches = catches_meet (block a point (Jumps to)) a.catches ps at here }
  block_fine ps a point (Holds code end rank) at here f = held_fine ps a point code end rank at f

  -- a way to a block supplies its parameters
  pub jump_meets : (to : Target) (b : PlainBlock) → slice_get g to.number ≡ Some b → MeetsFreely (Supplies b.params) (Jumps to)
  jump_meets to b is locals are enough = record { target = b; is = is; enough = enough }

  -- where a rest begins that fits at a point
  pub lodge_good : (ps : List Point) (a : Around) (point : Point) (r : Rest) (at : ℕ) → StandAt g at (lodge a point r at).made → AreCaughtAt a.catches ps → is_point variables point ≡ true → RestFits ps r (at_start variables point)
      → MeetsFreely (Supplies point) (Jumps (lodge a point r at).got) × AllFine (lodge a point r at).made
  unfolding ItemsFit
  lodge_good ps a point (Jumps to) at stand caught is f =
      let l : Leads g to.number (at_start variables point) = f.0 in
      (λ locals are enough. record { target = l.target; is = l.is; enough = supplies_on variables point once is locals l.target.params are enough (points to.number l.target l.is) l.enough }, none_made)
  lodge_good ps a point (Holds code end rank) at stand caught is f =
      (jump_meets (record { number = at; rank = rank_in a rank }) (block a point (Holds code end rank)) stand.0, more_made _ [] (held_fine ps a point code end rank caught f) none_made)

  -- where a clause begins
  pub homed_good : (ps : List Point) (a : Around) (point : Point) (r : Rest) (at : ℕ) (kinds : List ℕ) → StandAt g at (homed a point r at).made → AreCaughtAt a.catches ps → AreKinds kinds → Guarded c ps [] (at_start variables point) → RestFits ps r (at_start variables point)
      → IsCaughtAt (record { kinds = kinds; to = (homed a point r at).got }) point × AllFine (homed a point r at).made
  homed_good ps a point r at kinds stand caught are here f = (record { kinds = are; target = block a point r; is = stand.0; params = refl }, more_made _ [] (block_fine ps a point r caught here f) none_made)

  pub joined_good : (ps : List Point) (a : Around) (after : Option Point) (r : Rest) (goal : Asked) (at : ℕ) → StandAt g at (joined a after r at).made → AreCaughtAt a.catches ps → IfSome after (Passes (is_point variables)) → Meets ps goal r → BehindEnd variables after goal
      → MeetsFreely (Ends after) (joined a after r at).got × AllFine (joined a after r at).made
  joined_good ps a None (Jumps to) goal at stand caught is m h = (λ locals are e. absurd e, none_made)
  joined_good ps a None (Holds code end rank) goal at stand caught is m h = (λ locals e. e, none_made)
  joined_good ps a (Some point) r goal at stand caught is m h =
      let l = lodge_good ps a point r at (stand_first g at (lodge a point r at).made [] stand) caught is (m (at_start variables point) (start_variables variables point) h) in
      (l.0, both_made _ [] l.1 none_made)

  pub outlet_good : (ps : List Point) (a : Around) (after : Option Point) (r : Rest) (goal : Asked) (at : ℕ) → StandAt g at (outlet a after r at).made → AreCaughtAt a.catches ps → IfSome after (Passes (is_point variables)) → Meets ps goal r → BehindEnd variables after goal
      → MeetsFreely (Ends after) (outlet a after r at).got × AllFine (outlet a after r at).made
  outlet_good ps a None r goal at stand caught is m h = (λ locals e. e, none_made)
  outlet_good ps a (Some point) r goal at stand caught is m h = joined_good ps a (Some point) r goal at stand caught is m h

  pub branch_meets : (ps : List Point) (e : PlainExpr) (holds fails : Target) (yes' no' : Asked) → MeetsFreely yes' (Jumps holds) → MeetsFreely no' (Jumps fails) → Meets ps (TestedFits c leaves ps e yes' no') (branch e holds fails)
  unfolding ItemsFit
  branch_meets ps e holds fails yes' no' first second locals are h =
      ((h.0.0, first (narrowed (shown true e) locals) (shapes_narrowed (shown true e) locals ∙ are) h.0.1, second (narrowed (shown false e) locals) (shapes_narrowed (shown false e) locals ∙ are) h.0.2), h.1)
