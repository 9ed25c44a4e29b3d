-- Reading the first bytes of a file piece by piece, and what they are read as.
use Rattle.std.proofs.Common.{◌≡◌, ℕ, ◌+◌, ◌≤◌, ◌<◌, List, [], ◌++◌, length, take, Some, None, Ok, Err, refl, sym, ap, ◌∙◌, subst, arith}
use Rattle.std.proofs.Math.Seq.{take-add}
use Rattle.std.proofs.lemmas.List.{take_all, length-take, length-take-le, length-append, take-append-le}
use Rattle.std.specs.declared.option.Option.{Option}
use Rattle.std.specs.declared.result.Result.{Result}
use Rattle.std.specs.List.{sum_by}
use Rattle.sf_outside.specs.Bytes.{ReadsAt}
use Rattle.py_tree.specs.Tokens.{PlainLine}
use Rattle.py_tree.specs.declared.checked.Checked.{Checked}
use Rattle.py_tree.specs.CheckedViews.{checked_program, checked_names}
use Rattle.py_tree.specs.PlainProgram.{PlainProgram}
use Rattle.py_lexer.specs.declared.fault.LexFault.{LexFault}
use Rattle.py_lexer.specs.LogicalLines.{has_lines, has_fault, IsText, text_too_long, text_stops, text_lines}
use Rattle.program_text.specs.declared.acceptance.Accepted.{Accepted}
use Rattle.program_text.specs.declared.fault.ProgramFault.{ProgramFault}
use Rattle.program_text.specs.declared.fault.ProgramFault.TheVariants.{Lex}
use Rattle.program_text.specs.declared.fault.ProgramError.{ProgramError}
use Rattle.program_text.specs.declared.fault.ProgramError.TheVariants as error
use Rattle.program_text.specs.Readings.{Reads, IsOf, IsAcceptedText, HasFault, has_lexical, has_syntax, has_rule}
use Rattle.block_step.specs.CompiledViews.{compiled_program, compiled_names}
use Rattle.block_step.specs.declared.compiled.Compiled.{Compiled}
use Rattle.entity_compiler.specs.Compiling.{IsCompiledOf, Compiles}
use Rattle.stateflow_cli.specs.declared.loading.CompiledText.{CompiledText}
use Rattle.stateflow_cli.specs.declared.loading.LoadStop.{LoadStop}
use Rattle.stateflow_cli.specs.declared.loading.LoadStop.TheVariants as stop
use Rattle.stateflow_cli.specs.declared.printing.Counts.{Counts}
use Rattle.stateflow_cli.specs.Loading.{MayBegin, ReadsAs, Gives, IsCounted, IsChecked, IsCompiledWith, AreKept, load_stop}
use Rattle.stateflow_cli.proofs.CountLaws.{classes_counted, methods_counted}

pub MayBegin-none : (content : Option (List ℕ)) → MayBegin content 0 []
MayBegin-none None = tt
MayBegin-none (Some all) = refl

-- the next bytes of the file, after its first ones
pub MayBegin-more : (E : Type 0) (content : Option (List ℕ)) (text buf : List ℕ) (n : ℕ) → MayBegin content (length text) text → ReadsAt {E = E} content (length text) (Ok n) buf
    → MayBegin content (length text + n) (text ++ take n buf)
MayBegin-more E None text buf n h r = tt
MayBegin-more E (Some all) text buf n h r = ap (λ l. l ++ take n buf) h ∙ ap (λ l. take (length text) all ++ l) r.bytes ∙ sym (take-add (length text) n all)

-- no byte more: the file ends with them
pub MayBegin-all : (E : Type 0) (content : Option (List ℕ)) (text buf : List ℕ) (n bound : ℕ) → MayBegin content (length text) text → ReadsAt {E = E} content (length text) (Ok n) buf
    → n ≡ 0 → 0 < length buf → length text ≤ bound → MayBegin content bound text
MayBegin-all E None text buf n bound h r z s w = tt
MayBegin-all E (Some all) text buf n bound h r z s w = h ∙ take_all (length text) all (r.end z s) ∙ sym (take_all bound all (let e = r.end z s in omega (arith, e, w)))

pub MayBegin-full : (content : Option (List ℕ)) (text : List ℕ) (bound : ℕ) → MayBegin content (length text) text → length text ≤ bound → bound ≤ length text → MayBegin content bound text
MayBegin-full content text bound h a b = subst (λ n. MayBegin content n text) (omega (arith, a, b)) h

-- what was read is the whole text, where it is short enough for a program
whole : (text all : List ℕ) → text ≡ take 1048577 all → length text ≤ 1048576 → text ≡ all
whole text all e h = e ∙ take_all 1048577 all (let l : length text ≡ length (take 1048577 all) = ap length e in omega (arith, l, h, length-take 1048577 all))

lines_short : (text : List ℕ) (ls : List PlainLine) → IsText text (has_lines ls) → length text ≤ 1048576
lines_short text ls (text_lines short is) = short

-- a fault of the first bytes is one of the whole text
lexical_of : (text all : List ℕ) (f : LexFault) → text ≡ take 1048577 all → IsText text (has_fault f) → HasFault all (Lex f)
lexical_of text all f e (text_too_long long) = has_lexical (text_too_long (let l : length text ≡ length (take 1048577 all) = ap length e in omega (arith, l, long, length-take 1048577 all)))
lexical_of text all f e (text_stops short is) = subst (λ t. HasFault t (Lex f)) (whole text all e short) (has_lexical (text_stops short is))

pub fault_of : (text all : List ℕ) (f : ProgramFault) → text ≡ take 1048577 all → HasFault text f → HasFault all f
fault_of text all f e (has_lexical {f = g} is) = lexical_of text all g e is
fault_of text all f e (has_syntax {logical = ls} is parsed) = subst (λ t. HasFault t f) (whole text all e (lines_short text ls is)) (has_syntax is parsed)
fault_of text all f e (has_rule {logical = ls} is parsed broken) = subst (λ t. HasFault t f) (whole text all e (lines_short text ls is)) (has_rule is parsed broken)

-- what the first bytes of a file are read as, its text is
module _ {X : Type 0} (Is : List ℕ → X → Type 0) (short : (text : List ℕ) (x : X) → Is text x → length text ≤ 1048576) where
  gives : (content : Option (List ℕ)) (text : List ℕ) (r : Result X LoadStop) → MayBegin content 1048577 text → ReadsAs Is text r → Gives Is content r
  gives None text (Ok x) b is = record { text = text; told = tt; is = is }
  gives None text (Err (stop.Refused f)) b is = record { text = text; told = tt; is = is }
  gives (Some all) text (Ok x) b is = record { text = text; told = whole text all b (short text x is); is = is }
  gives (Some all) text (Err (stop.Refused f)) b is = record { text = all; told = refl; is = fault_of text all f b is }
  gives None text (Err stop.FileFault) b is = tt
  gives None text (Err stop.NoMemory) b is = tt
  gives (Some all) text (Err stop.FileFault) b is = tt
  gives (Some all) text (Err stop.NoMemory) b is = tt

accepted_short : (text : List ℕ) (program : PlainProgram) (names : List (List ℕ)) → IsAcceptedText text program names → length text ≤ 1048576
accepted_short text program names a = lines_short text a.logical a.lexed

pub gives_counts : (content : Option (List ℕ)) (text : List ℕ) (r : Result Counts LoadStop) → MayBegin content 1048577 text → ReadsAs IsCounted text r → Gives IsCounted content r
gives_counts = gives IsCounted (λ text x is. accepted_short text is.program is.names is.is_accepted)

pub gives_program : (content : Option (List ℕ)) (text : List ℕ) (r : Result Checked LoadStop) → MayBegin content 1048577 text → ReadsAs IsChecked text r → Gives IsChecked content r
gives_program = gives IsChecked (λ text x is. accepted_short text (checked_program x) (checked_names x) is)

pub gives_compiled : (content : Option (List ℕ)) (text : List ℕ) (r : Result Compiled LoadStop) → MayBegin content 1048577 text → ReadsAs IsCompiledOf text r → Gives IsCompiledOf content r
gives_compiled = gives IsCompiledOf (λ text x is. accepted_short text (compiled_program x) (compiled_names x) is.is_accepted)

pub gives_with_text : (content : Option (List ℕ)) (text : List ℕ) (r : Result CompiledText LoadStop) → MayBegin content 1048577 text → ReadsAs IsCompiledWith text r → Gives IsCompiledWith content r
gives_with_text = gives IsCompiledWith (λ text x is. accepted_short text (compiled_program x.compiled) (compiled_names x.compiled) is.is.is_accepted)

-- a file that could not be read says nothing of its text
pub gives_none : {X : Type 0} (Is : List ℕ → X → Type 0) (content : Option (List ℕ)) (e : LoadStop) → ((f : ProgramFault) → e ≡ stop.Refused f → ⊥) → Gives Is content (Err e)
gives_none Is content (stop.Refused f) n = absurd (n f refl)
gives_none Is content stop.FileFault n = tt
gives_none Is content stop.NoMemory n = tt

-- what is counted in it
pub counted : (text : List ℕ) (a : Accepted) (counts : Counts) → IsOf text a → counts.classes ≡ length a.tables → counts.methods ≡ sum_by (λ t. length t.methods) a.tables → IsCounted text counts
counted text a counts is classes methods = record {
  program = checked_program a.program;
  names = checked_names a.program;
  is_accepted = is.is_accepted;
  classes = classes ∙ classes_counted (checked_names a.program) (checked_program a.program) a.tables is.tables;
  methods = methods ∙ methods_counted (checked_names a.program) (checked_program a.program) a.tables is.tables;
}

-- a text that isn't accepted gives nothing
pub reads_none : {X : Type 0} (Is : List ℕ → X → Type 0) (text : List ℕ) (e : ProgramError) → Reads text (Err e) → ReadsAs Is text (Err (load_stop e))
reads_none Is text (error.Fault f) is = is
reads_none Is text error.NoMemory is = tt

pub compiles_none : (text : List ℕ) (e : ProgramError) → Compiles text (Err e) → ReadsAs IsCompiledOf text (Err (load_stop e))
compiles_none text (error.Fault f) is = is
compiles_none text error.NoMemory is = tt

-- one round: what was read begins the file, and so it goes on
pub read_more : (E : Type 0) (content now : Option (List ℕ)) (text buf rest new : List ℕ) (at n : ℕ) → MayBegin content (length text) text → now ≡ content → at ≡ length text → ReadsAt {E = E} now at (Ok n) buf → n ≤ length buf
    → new ≡ text ++ take n (buf ++ rest) → MayBegin content (length new) new
read_more E content now text buf rest new at n h k z r w e =
    let front : take n (buf ++ rest) ≡ take n buf = take-append-le n buf rest w in
    let read : ReadsAt {E = E} content (length text) (Ok n) buf = subst (λ o. ReadsAt {E = E} o (length text) (Ok n) buf) k (subst (λ i. ReadsAt {E = E} now i (Ok n) buf) z r) in
    let more : MayBegin content (length text + n) (text ++ take n buf) = MayBegin-more E content text buf n h read in
    let is : new ≡ text ++ take n buf = e ∙ ap (λ l. text ++ l) front in
    let long : length text + n ≡ length new = sym (ap length is ∙ length-append text (take n buf) ∙ ap (λ k. length text + k) (length-take-le n buf w)) in
    subst (λ k. MayBegin content k new) long (subst (MayBegin content (length text + n)) (sym is) more)

-- ---- the files

pub kept_at_first : (content : List ℕ → Option (List ℕ)) (faults : List ℕ → ℕ) → AreKept content content faults faults
kept_at_first content faults = record { content = λ q. refl; later = λ q. omega arith }

pub kept_then : (was mid is : List ℕ → Option (List ℕ)) (before between after : List ℕ → ℕ) → AreKept was mid before between
    → ((q : List ℕ) → is q ≡ mid q) → ((q : List ℕ) → between q ≤ after q) → AreKept was is before after
kept_then was mid is before between after kept same later = record {
  content = λ q. same q ∙ kept.content q;
  later = λ q. omega (arith, kept.later q, later q);
}
