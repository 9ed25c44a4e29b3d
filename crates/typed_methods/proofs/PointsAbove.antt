-- What is known before statements that assign nothing of it is known at each point within them too, so whatever is so where that is known is
-- so at each of those points.
use Rattle.std.proofs.Common.{◌≡◌, ℕ, true, false, cond, List, [], ◌∷◌, refl, sym, ap, ◌∙◌, subst}
use Rattle.py_tree.specs.PlainStatements.{PlainStmt, PPass, PBreak, PContinue, PDo, PReturn, PRaise, PAssert, PAssign, PAugment, PIf, PWhile, PFor, PlainStmts, PNoStmt, PStmt, PArm, PlainArms, PNoArm, PMoreArms}
use Rattle.py_tree.specs.FlowEnvironment.{PlainLocal, shown, narrowed}
use Rattle.py_tree.specs.Reachability.{goes_on, assigns, assigned_in, assigned_in_arms}
use Rattle.py_tree.specs.Flow.{Context, Way, on, begun, within_loop, known_at, settled, with_local, at_head, for_head, named_at}
use Rattle.program_meaning.proofs.LocalShapes.{shapes, Grows, alike_grows, local_grows, shapes_narrowed, shapes_settled, shapes_at_head}
use Rattle.program_meaning.proofs.FlowParts.{stored_ok}
use Rattle.program_meaning.proofs.FlowGrows.{for_shapes}
use Rattle.block_code.specs.PlainBlocks.{ICode}
use Rattle.block_code.specs.GraphFits.{Asked, AtEachPoint, Within, WithinArms, AtEachItem}
use Rattle.flat_tree.specs.PlainFlat.{Point}
use Rattle.flat_types.specs.FlatTypes.{Supplies, Guarded}
use Rattle.flat_types.proofs.FlowStays.{EachTyped, first_typed, later_typed, shapes_with, stmt_stays, all_stay}
use Rattle.typed_hoisting.specs.TypedHoisting.{SuppliesAll}
use Rattle.typed_methods.proofs.Floors.{EachForgets, EachUnder, EachAbove, each_first, each_rest, each_narrowed, each_at_head, each_stored, each_before, each_for_head, each_under, each_begun, each_on_way, each_stmt, each_all}

module _ (fs : List (List PlainLocal)) (env : List PlainLocal) where
  module _ (P : Asked) (gives : (ls : List PlainLocal) → EachUnder fs ls → shapes ls ≡ shapes env → P ls) where
    moved : (names : List ℕ) (ls : List PlainLocal) → shapes ls ≡ shapes env → EachTyped (shapes env) names → EachTyped (shapes ls) names
    moved names ls e t = subst (λ ss. EachTyped ss names) (sym e) t

    mutual
      unfolding AtEachPoint assigns

      all_within : (xs : PlainStmts) (d : Context) (w : Way) → EachForgets fs (assigned_in xs) → EachTyped (shapes env) (assigned_in xs) → EachAbove fs w → shapes w.locals ≡ shapes env → AtEachPoint P d w xs
      all_within PNoStmt d w forgets typed a s = gives w.locals (each_under fs w a) s
      all_within (PStmt x xs) d w forgets typed a s =
          let rest : List ℕ = cond (goes_on x) (assigned_in xs) [] in
          let f : EachForgets fs (assigns x) = each_first fs (assigns x) rest forgets in
          let t : EachTyped (shapes env) (assigns x) = first_typed (shapes env) (assigns x) rest typed in (
            gives w.locals (each_under fs w a) s,
            stmt_within x d w f t a s,
            λ go next h.
                all_within xs d next
                (subst (λ b. EachForgets fs (cond b (assigned_in xs) [])) go (each_rest fs (assigns x) rest forgets))
                (subst (λ b. EachTyped (shapes env) (cond b (assigned_in xs) [])) go (later_typed (shapes env) (assigns x) rest typed))
                (each_stmt fs x d w next f a h)
                ((stmt_stays x d w next h).same (moved (assigns x) w.locals s t) ∙ s),
          )

      stmt_within : (x : PlainStmt) (d : Context) (w : Way) → EachForgets fs (assigns x) → EachTyped (shapes env) (assigns x) → EachAbove fs w → shapes w.locals ≡ shapes env → Within P d w x
      stmt_within (PPass at) d w forgets typed a s = tt
      stmt_within (PBreak at) d w forgets typed a s = tt
      stmt_within (PContinue at) d w forgets typed a s = tt
      stmt_within (PDo at e) d w forgets typed a s = tt
      stmt_within (PReturn at e) d w forgets typed a s = tt
      stmt_within (PRaise at kind e) d w forgets typed a s = tt
      stmt_within (PAssert at test e) d w forgets typed a s = tt
      stmt_within (PAssign at x ty e) d w forgets typed a s = tt
      stmt_within (PAugment at x op op_at e) d w forgets typed a s = tt
      stmt_within (PIf at arms other) d w forgets typed a s =
          arms_within arms d w other (each_first fs (assigned_in_arms arms) (assigned_in other) forgets) (first_typed (shapes env) (assigned_in_arms arms) (assigned_in other) typed) a s
          (λ last b e. all_within other d last (each_rest fs (assigned_in_arms arms) (assigned_in other) forgets) (later_typed (shapes env) (assigned_in_arms arms) (assigned_in other) typed) b e)
      stmt_within (PWhile at test body) d w forgets typed a s =
          let head : List PlainLocal = at_head (assigned_in body) w.locals in
          let start : List PlainLocal = narrowed (shown true test) head in
          all_within body (within_loop d) (begun start) forgets typed
          (each_begun fs start (each_narrowed fs (shown true test) head (each_at_head fs (assigned_in body) w.locals forgets (each_under fs w a))))
          (shapes_narrowed (shown true test) head ∙ shapes_at_head (assigned_in body) w.locals ∙ s)
      stmt_within (PFor at name name_at over body) d w forgets typed a s = λ item named goes names.
          let all : List ℕ = name ∷ assigned_in body in
          let put : with_local name item item w.locals ≡ named = (stored_ok d w.locals (named_at name name_at) item named names).1 in
          let to_named : Grows w.locals named = subst (λ ls. Grows w.locals ls) put (local_grows name item item w.locals) in
          let head : List PlainLocal = for_head all w.locals named in
          let start : List PlainLocal = with_local name item item head in
          let under : EachUnder fs head = each_for_head fs all w.locals named forgets to_named (each_under fs w a) in
          let here : EachTyped (shapes w.locals) all = moved all w.locals s typed in
          let to_head : shapes head ≡ shapes w.locals = for_shapes all w.locals named ∙ ap shapes (sym put) ∙ shapes_with name item item w.locals here.0 in
          let to_start : shapes start ≡ shapes w.locals = shapes_with name item item head (moved all head (to_head ∙ s) typed).0 ∙ to_head in
          all_within body (within_loop d) (begun start) (each_rest fs (name ∷ []) (assigned_in body) forgets) typed.1
          (each_begun fs start (each_stored fs name item item head (each_first fs (name ∷ []) (assigned_in body) forgets) under)) (to_start ∙ s)

      arms_within : (arms : PlainArms) (d : Context) (w : Way) (other : PlainStmts) → EachForgets fs (assigned_in_arms arms) → EachTyped (shapes env) (assigned_in_arms arms) → EachAbove fs w → shapes w.locals ≡ shapes env
          → ((last : Way) → EachAbove fs last → shapes last.locals ≡ shapes env → AtEachPoint P d last other) → WithinArms P d w arms (λ last. AtEachPoint P d last other)
      arms_within PNoArm d w other forgets typed a s k = k w a s
      arms_within (PMoreArms (PArm test body) more) d w other forgets typed a s k =
          let f : EachForgets fs (assigned_in body) = each_first fs (assigned_in body) (assigned_in_arms more) forgets in
          let t : EachTyped (shapes env) (assigned_in body) = first_typed (shapes env) (assigned_in body) (assigned_in_arms more) typed in
          let start : Way = on w (narrowed (shown true test) w.locals) in
          let same_start : shapes start.locals ≡ shapes w.locals = shapes_narrowed (shown true test) w.locals in
          let b : EachAbove fs start = each_on_way fs w start.locals a (alike_grows w.locals start.locals same_start) (each_narrowed fs (shown true test) w.locals (each_under fs w a)) in (
            all_within body d start f t b (same_start ∙ s),
            λ end h.
                let left : List PlainLocal = narrowed (shown false test) w.locals in
                let rest : List PlainLocal = settled end.locals (known_at left) in
                let same : shapes end.locals ≡ shapes w.locals = (all_stay body d start end h).same (moved (assigned_in body) start.locals (same_start ∙ s) t) ∙ same_start in
                let same_rest : shapes rest ≡ shapes end.locals = shapes_settled end.locals (known_at left) in
                arms_within more d (on end rest) other (each_rest fs (assigned_in body) (assigned_in_arms more) forgets) (later_typed (shapes env) (assigned_in body) (assigned_in_arms more) typed)
                (each_on_way fs end rest (each_all fs body d start end f b h) (alike_grows end.locals rest same_rest)
                (each_before fs left end.locals (alike_grows left end.locals (same ∙ sym (shapes_narrowed (shown false test) w.locals))) (each_narrowed fs (shown false test) w.locals (each_under fs w a))))
                (same_rest ∙ same ∙ s) k,
          )

    -- and so it is at the points of code
    pub code_within : (xs : PlainStmts) (d : Context) → EachForgets fs (assigned_in xs) → EachTyped (shapes env) (assigned_in xs) → EachUnder fs env → AtEachItem P d (ICode xs ∷ []) env
    unfolding AtEachItem
    code_within xs d forgets typed under =
        let a : EachAbove fs (begun env) = each_begun fs env under in
        (all_within xs d (begun env) forgets typed a refl, λ go end h. gives end.locals (each_under fs end (each_all fs xs d (begun env) end forgets a h)) ((all_stay xs d (begun env) end h).same typed))

  -- points that are supplied wherever that is known are supplied throughout code
  pub code_guarded : (xs : PlainStmts) (d : Context) → EachForgets fs (assigned_in xs) → EachTyped (shapes env) (assigned_in xs) → EachUnder fs env
      → (ps : List Point) → ((ls : List PlainLocal) → EachUnder fs ls → shapes ls ≡ shapes env → SuppliesAll ps ls) → Guarded d ps (ICode xs ∷ []) env
  code_guarded xs d forgets typed under [] gives = tt
  code_guarded xs d forgets typed under (p ∷ ps) gives =
      (code_within (Supplies p) (λ ls u e. (gives ls u e).0) xs d forgets typed under, code_guarded xs d forgets typed under ps (λ ls u e. (gives ls u e).1))
