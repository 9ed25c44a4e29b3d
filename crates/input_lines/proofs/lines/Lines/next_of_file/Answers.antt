use Rattle.std.proofs.Common.{◌≡◌, ◌≤◌, ◌-◌, ◌+◌, ◌∙◌, ℕ, List, [], Some, refl, sym, ap, subst, length, arith}
use Rattle.std.proofs.lemmas.Result.{err_from_is_err_and}
use Rattle.std.specs.declared.option.Option.{Option}
use Rattle.std.specs.Io.KnownBytes.{IsAtEnd}
use Rattle.input_lines.specs.declared.lines.Lines.{Lines}
use Rattle.input_lines.specs.Reads.{Joins, EndsLine, JoinsAll, GoesPast}
use Rattle.input_lines.specs.FileReads.{left_from}
use Rattle.input_lines.proofs.ReadLaws.{Joins-then, Ends-then, All-then, Then-piece, Then-end, Then-none, Still-all}
use Rattle.input_lines.proofs.FileLaws.{same_room, at_same}
use Rattle.input_lines.proofs.lines.Lines.next_of_file.Goals as goal

pub pieces-init : goal.pieces-init
pieces-init g c =
    let first = c.args.self.now in
    let held : Option (List ℕ) = g.F.Files.content c.args.files.now c.args.name.now in
    let same = same_room (c.begin.ensures (Some [])).uses in
    record {
      joins = at_same (Joins first c.begin.new.self (left_from held (c.args.limit - first.room))) held (c.args.limit - first.room)
          (c.args.limit - c.begin.new.self.room) (omega (arith, same)) (c.begin.ensures (left_from held (c.args.limit - first.room)));
      room = omega (arith, same);
      kept = λ q. refl;
      later = λ q. omega arith;
    }

pub returns-in_err-take-clause-gives : goal.returns-in_err-take-clause-gives
returns-in_err-take-clause-gives g c =
    let first = c.args.self.now in
    let held : Option (List ℕ) = g.F.Files.content c.args.files.now c.args.name.now in
    let begins : Option (List ℕ) = left_from held (c.args.limit - first.room) in
    let now : Option (List ℕ) = left_from held (c.args.limit - c.pieces.self.room) in
    let p = err_from_is_err_and c.from_residual.result c.from_residual.ensures.1 in
    let same = same_room (c.in_err-take.ensures (Some [])).uses in
    rw p.1 (at_same (Joins first c.take.new.self begins) held (c.args.limit - c.pieces.self.room) (c.args.limit - c.take.new.self.room + 0) (omega (arith, same))
    (Joins-then c.pieces.invariant.joins (c.in_err-take.ensures now)))

pub returns-in_err-take-clause-room : goal.returns-in_err-take-clause-room
returns-in_err-take-clause-room g c = omega (arith, c.pieces.invariant.room, same_room (c.in_err-take.ensures (Some [])).uses)

pub returns-then-branch-clause-gives : goal.returns-then-branch-clause-gives
returns-then-branch-clause-gives g c =
    let first = c.args.self.now in
    let held : Option (List ℕ) = g.F.Files.content c.args.files.now c.args.name.now in
    let begins : Option (List ℕ) = left_from held (c.args.limit - first.room) in
    let now : Option (List ℕ) = left_from held (c.args.limit - c.pieces.self.room) in
    let same = same_room (rw c.if-branch.true at (c.in_ok-take.ensures (Some []))).uses in
    at_same (EndsLine first c.take.new.self begins) held (c.args.limit - c.pieces.self.room) (c.args.limit - c.take.new.self.room + 0) (omega (arith, same))
    (Ends-then c.pieces.invariant.joins (rw c.if-branch.true at (c.in_ok-take.ensures now)))

pub returns-then-branch-clause-room : goal.returns-then-branch-clause-room
returns-then-branch-clause-room g c = omega (arith, c.pieces.invariant.room, same_room (rw c.if-branch.true at (c.in_ok-take.ensures (Some []))).uses)

pub overflow_sub-at : goal.overflow_sub-at
overflow_sub-at g c = omega (arith, c.requires, c.pieces.invariant.room, same_room (rw c.if-branch.false at (c.in_ok-take.ensures (Some []))).joins.uses)

pub returns-in-Ok-true-clause-gives : goal.returns-in-Ok-true-clause-gives
returns-in-Ok-true-clause-gives g c =
    let first = c.args.self.now in
    let held : Option (List ℕ) = g.F.Files.content c.args.files.now c.args.name.now in
    let begins : Option (List ℕ) = left_from held (c.args.limit - first.room) in
    let now : Option (List ℕ) = left_from held (c.args.limit - c.pieces.self.room) in
    let taken : Option (List ℕ) = left_from held (c.args.limit - c.take.new.self.room) in
    let same = same_room (rw c.if-branch.false at (c.in_ok-take.ensures (Some []))).joins.uses in
    let all : JoinsAll first c.take.new.self begins taken =
    at_same (JoinsAll first c.take.new.self begins) held (c.args.limit - c.pieces.self.room) (c.args.limit - c.take.new.self.room) (omega (arith, same))
    (All-then c.pieces.invariant.joins (rw c.if-branch.false at (c.in_ok-take.ensures now))) in
    let kept = c.pieces.invariant.kept c.args.name.now in
    let one = rw (c.in-Ok-true.field-0-test, kept) at c.in-Ok-true.ensures.asks in
    record { before = taken; all = all; full = c.if-self-eq0.true; next = one.0; beyond = one.1 }

pub returns-in-Ok-false-clause-gives : goal.returns-in-Ok-false-clause-gives
returns-in-Ok-false-clause-gives g c =
    let first = c.args.self.now in
    let held : Option (List ℕ) = g.F.Files.content c.args.files.now c.args.name.now in
    let begins : Option (List ℕ) = left_from held (c.args.limit - first.room) in
    let now : Option (List ℕ) = left_from held (c.args.limit - c.pieces.self.room) in
    let taken : Option (List ℕ) = left_from held (c.args.limit - c.take.new.self.room) in
    let same = same_room (rw c.if-branch.false at (c.in_ok-take.ensures (Some []))).joins.uses in
    let all : JoinsAll first c.take.new.self begins taken =
    at_same (JoinsAll first c.take.new.self begins) held (c.args.limit - c.pieces.self.room) (c.args.limit - c.take.new.self.room) (omega (arith, same))
    (All-then c.pieces.invariant.joins (rw c.if-branch.false at (c.in_ok-take.ensures now))) in
    let kept = c.pieces.invariant.kept c.args.name.now in
    let ends = rw (c.in-Ok-false.field-0-test, kept) at c.in-Ok-false.ensures.asks in
    at_same (λ l. JoinsAll first c.take.new.self begins l × IsAtEnd l) held (c.args.limit - c.take.new.self.room) (c.args.limit - c.take.new.self.room + 0) (omega arith)
    (all, ends)

pub returns-in-Err-clause-gives : goal.returns-in-Err-clause-gives
returns-in-Err-clause-gives g c =
    let first = c.args.self.now in
    let held : Option (List ℕ) = g.F.Files.content c.args.files.now c.args.name.now in
    let begins : Option (List ℕ) = left_from held (c.args.limit - first.room) in
    let now : Option (List ℕ) = left_from held (c.args.limit - c.pieces.self.room) in
    let taken : Option (List ℕ) = left_from held (c.args.limit - c.take.new.self.room) in
    let same = same_room (rw c.if-branch.false at (c.in_ok-take.ensures (Some []))).joins.uses in
    let all : JoinsAll first c.take.new.self begins taken =
    at_same (JoinsAll first c.take.new.self begins) held (c.args.limit - c.pieces.self.room) (c.args.limit - c.take.new.self.room) (omega (arith, same))
    (All-then c.pieces.invariant.joins (rw c.if-branch.false at (c.in_ok-take.ensures now))) in
    at_same (JoinsAll first c.take.new.self begins) held (c.args.limit - c.take.new.self.room) (c.args.limit - c.take.new.self.room + 0) (omega arith) all

pub returns-in-Ok-eq0-clause-gives : goal.returns-in-Ok-eq0-clause-gives
returns-in-Ok-eq0-clause-gives g c =
    let first = c.args.self.now in
    let held : Option (List ℕ) = g.F.Files.content c.args.files.now c.args.name.now in
    let read : Lines = record { line = c.take.new.self.line; ended = c.take.new.self.ended; piece = c.fill_at.new.self; room = c.take.new.self.room; longest = c.take.new.self.longest } in
    let begins : Option (List ℕ) = left_from held (c.args.limit - first.room) in
    let now : Option (List ℕ) = left_from held (c.args.limit - c.pieces.self.room) in
    let taken : Option (List ℕ) = left_from held (c.args.limit - c.take.new.self.room) in
    let same = same_room (rw c.if-branch.false at (c.in_ok-take.ensures (Some []))).joins.uses in
    let all : JoinsAll first c.take.new.self begins taken =
    at_same (JoinsAll first c.take.new.self begins) held (c.args.limit - c.pieces.self.room) (c.args.limit - c.take.new.self.room) (omega (arith, same))
    (All-then c.pieces.invariant.joins (rw c.if-branch.false at (c.in_ok-take.ensures now))) in
    let kept = c.pieces.invariant.kept c.args.name.now in
    let fills = rw (c.in-Ok-eq0.field-0-test, kept) at c.in-Ok-eq0.ensures.fills in
    let end = Then-end all fills refl refl refl refl in
    at_same (λ l. JoinsAll first read begins l × IsAtEnd l) held (c.args.limit - c.take.new.self.room + length c.fill_at.new.self) (c.args.limit - c.take.new.self.room + 0)
    (omega (arith, fills.counted)) end

pub returns-in-Ok-eq0-clause-room : goal.returns-in-Ok-eq0-clause-room
returns-in-Ok-eq0-clause-room g c = omega (arith, c.pieces.invariant.room, same_room (rw c.if-branch.false at (c.in_ok-take.ensures (Some []))).joins.uses)

pub pieces-smaller : goal.pieces-smaller
pieces-smaller g c =
    let same = same_room (rw c.if-branch.false at (c.in_ok-take.ensures (Some []))).joins.uses in
    omega (arith, same, c.in-Ok.ensures.fills.within, c.in-Ok.count-test)

pub pieces-preserved : goal.pieces-preserved
pieces-preserved g c =
    let first = c.args.self.now in
    let held : Option (List ℕ) = g.F.Files.content c.args.files.now c.args.name.now in
    let read : Lines = record { line = c.take.new.self.line; ended = c.take.new.self.ended; piece = c.fill_at.new.self; room = c.take.new.self.room - c.in-Ok.count; longest = c.take.new.self.longest } in
    let begins : Option (List ℕ) = left_from held (c.args.limit - first.room) in
    let now : Option (List ℕ) = left_from held (c.args.limit - c.pieces.self.room) in
    let taken : Option (List ℕ) = left_from held (c.args.limit - c.take.new.self.room) in
    let same = same_room (rw c.if-branch.false at (c.in_ok-take.ensures (Some []))).joins.uses in
    let all : JoinsAll first c.take.new.self begins taken =
    at_same (JoinsAll first c.take.new.self begins) held (c.args.limit - c.pieces.self.room) (c.args.limit - c.take.new.self.room) (omega (arith, same))
    (All-then c.pieces.invariant.joins (rw c.if-branch.false at (c.in_ok-take.ensures now))) in
    let kept = c.pieces.invariant.kept c.args.name.now in
    let fills = rw kept at c.in-Ok.ensures.fills in
    record {
      joins = at_same (Joins first read begins) held (c.args.limit - c.take.new.self.room + length c.fill_at.new.self)
          (c.args.limit - (c.take.new.self.room - c.in-Ok.count)) (omega (arith, fills.counted, fills.within, same, c.requires, c.pieces.invariant.room))
          (Then-piece all fills refl refl (omega (arith, fills.within)) refl);
      room = omega (arith, same, c.pieces.invariant.room);
      kept = λ q. c.fill_at.ensures.kept q ∙ c.pieces.invariant.kept q;
      later = λ q. omega (arith, c.pieces.invariant.later q, c.fill_at.ensures.later q);
    }

pub returns-in-Err-fill_at-clause-gives : goal.returns-in-Err-fill_at-clause-gives
returns-in-Err-fill_at-clause-gives g c =
    let first = c.args.self.now in
    let held : Option (List ℕ) = g.F.Files.content c.args.files.now c.args.name.now in
    let read : Lines = record { line = c.take.new.self.line; ended = c.take.new.self.ended; piece = c.fill_at.new.self; room = c.take.new.self.room; longest = c.take.new.self.longest } in
    let begins : Option (List ℕ) = left_from held (c.args.limit - first.room) in
    let now : Option (List ℕ) = left_from held (c.args.limit - c.pieces.self.room) in
    let taken : Option (List ℕ) = left_from held (c.args.limit - c.take.new.self.room) in
    let same = same_room (rw c.if-branch.false at (c.in_ok-take.ensures (Some []))).joins.uses in
    let all : JoinsAll first c.take.new.self begins taken =
    at_same (JoinsAll first c.take.new.self begins) held (c.args.limit - c.pieces.self.room) (c.args.limit - c.take.new.self.room) (omega (arith, same))
    (All-then c.pieces.invariant.joins (rw c.if-branch.false at (c.in_ok-take.ensures now))) in
    let kept = c.pieces.invariant.kept c.args.name.now in
    let fills = rw kept at c.in-Err-fill_at.ensures.fills in
    at_same (JoinsAll first read begins) held (c.args.limit - c.take.new.self.room + length c.fill_at.new.self) (c.args.limit - c.take.new.self.room + 0)
    (omega (arith, ap length fills.1)) (Then-none all fills.0 fills.1 refl refl refl refl)

pub returns-in-Err-fill_at-clause-room : goal.returns-in-Err-fill_at-clause-room
returns-in-Err-fill_at-clause-room g c = omega (arith, c.pieces.invariant.room, same_room (rw c.if-branch.false at (c.in_ok-take.ensures (Some []))).joins.uses)
