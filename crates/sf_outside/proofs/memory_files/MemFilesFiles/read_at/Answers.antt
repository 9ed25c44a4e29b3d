use Rattle.std.proofs.Common.{◌≡◌, ℕ, List, None, IsSome, ap, ◌∙◌, sym, subst, arith}
use Rattle.sf_outside.proofs.NamedFiles.{content_at, fault_at, missing_at, others_later, fails_missing, fails_held, faults_held}
use Rattle.sf_outside.specs.Calls.{is_due}
use Rattle.sf_outside.specs.Causes.{next_count}
use Rattle.sf_outside.specs.Named.{content_of, faults_of}
use Rattle.sf_outside.proofs.memory_files.MemFilesFiles.read_at.Goals as goal

pub returns-in_default-clause-cause : goal.returns-in_default-clause-cause
returns-in_default-clause-cause c =
    let gone = missing_at c.self.inside.files.items c.args.name.now c.in_default.ensures in
    rw (← c.self.view_is) (record { later = others_later c.self.inside.files.items _ _ c.args.name.now (omega arith); failed = omega (arith, gone.faults c.self.inside.other_faults, gone.faults c.saturating_add-self-inside.result) })

pub returns-in_default-clause-later : goal.returns-in_default-clause-later
returns-in_default-clause-later c q = rw (← c.self.view_is) (others_later c.self.inside.files.items _ _ q (omega arith))

pub returns-in_default-clause-counted : goal.returns-in_default-clause-counted
returns-in_default-clause-counted c =
    let gone = missing_at c.self.inside.files.items c.args.name.now c.in_default.ensures in
    let counted : c.saturating_add-self-inside.result ≡ next_count c.self.inside.other_faults = omega (arith, c.saturating_add-self-inside.ensures) in
    rw (← c.self.view_is) (gone.faults c.saturating_add-self-inside.result ∙ counted ∙ ap next_count (sym (gone.faults c.self.inside.other_faults)))

pub returns-then-is_due-clause-counted : goal.returns-then-is_due-clause-counted
returns-then-is_due-clause-counted c =
    let changed = fault_at c.self.inside.other_faults c.self.inside.files.items c.args.name.now c.in-Some.place c.index_mut-file.result.now c.fault.new.self c.in-Some.ensures c.index_mut-file.ensures.value c.fault.ensures.counted c.fault.ensures.later in
    rw (← c.self.view_is) changed.counted

pub returns-in_default-clause-fails : goal.returns-in_default-clause-fails
returns-in_default-clause-fails c =
    fails_missing _ _ (ap (λ files. content_of files.files c.args.name.now) (sym c.self.view_is) ∙ (missing_at c.self.inside.files.items c.args.name.now c.in_default.ensures).content)

pub returns-then-is_due-clause-kept : goal.returns-then-is_due-clause-kept
returns-then-is_due-clause-kept c q =
    (fault_at 0 c.self.inside.files.items c.args.name.now c.in-Some.place c.index_mut-file.result.now c.fault.new.self c.in-Some.ensures c.index_mut-file.ensures.value c.fault.ensures.counted c.fault.ensures.later).kept q
    ∙ ap (λ files. content_of files.files q) c.self.view_is

pub returns-then-is_due-clause-cause : goal.returns-then-is_due-clause-cause
returns-then-is_due-clause-cause c =
    let changed = fault_at c.self.inside.other_faults c.self.inside.files.items c.args.name.now c.in-Some.place c.index_mut-file.result.now c.fault.new.self c.in-Some.ensures c.index_mut-file.ensures.value c.fault.ensures.counted c.fault.ensures.later in
    rw (← c.self.view_is) (record { later = changed.later c.args.name.now; failed = omega (arith, changed.counted) })

pub returns-then-is_due-clause-later : goal.returns-then-is_due-clause-later
returns-then-is_due-clause-later c q =
    rw (← c.self.view_is) ((fault_at c.self.inside.other_faults c.self.inside.files.items c.args.name.now c.in-Some.place c.index_mut-file.result.now c.fault.new.self c.in-Some.ensures c.index_mut-file.ensures.value c.fault.ensures.counted c.fault.ensures.later).later q)

pub returns-clause-bytes : goal.returns-clause-bytes
returns-clause-bytes c =
    let held = content_at c.self.inside.files.items c.args.name.now c.in-Some.place c.index_mut-file.result.now c.in-Some.ensures c.index_mut-file.ensures.value in
    let told = ap (λ files. content_of files.files c.args.name.now) (sym c.self.view_is) ∙ held in
    rw told c.copy_at.ensures.copied

pub returns-clause-fails : goal.returns-clause-fails
returns-clause-fails c =
    fails_held _ _ c.index_mut-file.result.now.bytes
    (ap (λ files. is_due files.fail_at c.next_fails-is_due.new.self.made) (sym c.self.view_is) ∙ sym c.next_fails-is_due.ensures.answer ∙ c.if-is_due.false)
    (ap (λ files. content_of files.files c.args.name.now) (sym c.self.view_is) ∙ content_at c.self.inside.files.items c.args.name.now c.in-Some.place c.index_mut-file.result.now c.in-Some.ensures c.index_mut-file.ensures.value)

pub returns-in_default-clause-others : goal.returns-in_default-clause-others
returns-in_default-clause-others c q differs held =
    faults_held c.self.inside.files.items q c.self.inside.other_faults c.saturating_add-self-inside.result (subst (λ files. IsSome (content_of files.files q)) (sym c.self.view_is) held)
    ∙ ap (λ files. faults_of files.other_faults files.files q) c.self.view_is

pub returns-in_default-clause-other_faults : goal.returns-in_default-clause-other_faults
returns-in_default-clause-other_faults c held =
    let gone = (missing_at c.self.inside.files.items c.args.name.now c.in_default.ensures).content in
    let none : IsSome {T = List ℕ} None = subst IsSome gone (subst (λ files. IsSome (content_of files.files c.args.name.now)) (sym c.self.view_is) held) in
    cc

pub returns-then-is_due-clause-others : goal.returns-then-is_due-clause-others
returns-then-is_due-clause-others c q differs held =
    (fault_at c.self.inside.other_faults c.self.inside.files.items c.args.name.now c.in-Some.place c.index_mut-file.result.now c.fault.new.self c.in-Some.ensures c.index_mut-file.ensures.value c.fault.ensures.counted c.fault.ensures.later).elsewhere q differs
    ∙ ap (λ files. faults_of files.other_faults files.files q) c.self.view_is
