use Rattle.std.proofs.Common.{refl, sym, ap, ◌∙◌}
use Rattle.py_tree.specs.PlainTypes.{TList, TOptional, plain_ty}
use Rattle.py_tree.proofs.Views.{ty-Int, ty-Bool, ty-Str, ty-Nil, ty-List, ty-Optional}
use Rattle.sf_value.specs.declared.value.Value.TheVariants as value
use Rattle.entity_tables.specs.Views.{plain_tables}
use Rattle.program_meaning.specs.Fits.{int, bool, str, nil, none, empty}
use Rattle.program_fit.proofs.FitTests.{holds, fails, refuses, moved, list_test, inner_test, all_more, all_stop}
use Rattle.program_fit.proofs.values.+fits.Goals as goal

pub all_fit-loop-value-init : goal.all_fit-loop-value-init
all_fit-loop-value-init t c = empty

pub all_fit-returns-then-not-value_fits : goal.all_fit-returns-then-not-value_fits
all_fit-returns-then-not-value_fits t c = fails (all_stop (plain_tables c.args.tables.now) (plain_ty c.args.element.now) c.args.values.now c.loop-value.value-index c.value-item.result c.loop-value-test.true c.value-item.is (refuses c.value_fits.result c.if-not-value_fits.true c.value_fits.ensures))

pub all_fit-loop-value-preserved : goal.all_fit-loop-value-preserved
all_fit-loop-value-preserved t c = all_more (plain_tables c.args.tables.now) (plain_ty c.args.element.now) c.args.values.now c.loop-value.value-index c.value-item.result c.loop-value-test.true c.value-item.is c.loop-value.invariant (c.value_fits.ensures.0 c.if-not-value_fits.false)

pub value_fits-returns-in-Int-matches : goal.value_fits-returns-in-Int-matches
value_fits-returns-in-Int-matches t c = moved (plain_tables c.args.tables.now) _ _ _ _ _ (ap plain_ty c.in-Int.is ∙ ty-Int) c.in-Int-matches.is (holds (int c.in-Int-matches.field-0))

pub value_fits-returns-in-Bool-matches : goal.value_fits-returns-in-Bool-matches
value_fits-returns-in-Bool-matches t c = moved (plain_tables c.args.tables.now) _ _ _ _ _ (ap plain_ty c.in-Bool.is ∙ ty-Bool) c.in-Bool-matches.is (holds (bool c.in-Bool-matches.field-0))

pub value_fits-returns-in-Str-matches : goal.value_fits-returns-in-Str-matches
value_fits-returns-in-Str-matches t c = moved (plain_tables c.args.tables.now) _ _ _ _ _ (ap plain_ty c.in-Str.is ∙ ty-Str) c.in-Str-matches.is (holds (str c.in-Str-matches.field-0))

pub value_fits-returns-in-Nil-matches : goal.value_fits-returns-in-Nil-matches
value_fits-returns-in-Nil-matches t c = moved (plain_tables c.args.tables.now) _ _ _ _ _ (ap plain_ty c.in-Nil.is ∙ ty-Nil) c.in-Nil-matches.is (holds nil)

pub value_fits-returns-in-List-value : goal.value_fits-returns-in-List-value
value_fits-returns-in-List-value t c = moved (plain_tables c.args.tables.now) _ _ _ _ _ (ap plain_ty c.in-List.is ∙ ty-List c.in-List.element ∙ ap (λ a. TList (plain_ty a)) (sym c.deref.ensures))
    (c.in-List-value.is ∙ ap value.List (sym c.as_slice.ensures)) (list_test (plain_tables c.args.tables.now) c.all_fit.result (plain_ty c.deref.result.now) c.as_slice.result.now c.all_fit.ensures)

pub value_fits-returns-in-Nil-value : goal.value_fits-returns-in-Nil-value
value_fits-returns-in-Nil-value t c = moved (plain_tables c.args.tables.now) _ _ _ _ _ (ap plain_ty c.in-Optional.is ∙ ty-Optional c.in-Optional.inner) c.in-Nil-value.is (holds none)

pub value_fits-returns-in_default-value-2 : goal.value_fits-returns-in_default-value-2
value_fits-returns-in_default-value-2 t c = moved (plain_tables c.args.tables.now) _ _ _ _ _ (ap plain_ty c.in-Optional.is ∙ ty-Optional c.in-Optional.inner ∙ ap (λ a. TOptional (plain_ty a)) (sym c.deref-in_default-value-2.ensures))
    refl (inner_test (plain_tables c.args.tables.now) c.value_fits.result (plain_ty c.deref-in_default-value-2.result.now) c.args.value.now c.in_default-value-2.not-Nil c.value_fits.ensures)
