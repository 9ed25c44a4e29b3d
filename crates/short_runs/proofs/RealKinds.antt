-- An accepted program that writes what is real keeps what is real.
use Rattle.std.proofs.Common.{ℕ, zero, suc, ◌+◌, ◌≤◌, Bool, true, false, cond, Option, Some, None, List, [], ◌∷◌, length, refl, arith, FitsSigned}
use Rattle.std.specs.Prelude.{IfSome, slice_get, unwrap_or, nat_eq}
use Rattle.std.specs.Int.{w128}
use Rattle.std.specs.List.{All, position_from}
use Rattle.std.specs.Str.{IsUtf8}
use Rattle.std.proofs.lemmas.List.Elements.{All-filter}
use Rattle.std.proofs.lemmas.Str.{IsUtf8-nil, scalars-chars}
use Rattle.py_tree.specs.PlainProgram.{PlainMethod, PlainClass}
use Rattle.py_tree.specs.PlainStatements.{stmts_of}
use Rattle.py_tree.specs.ClassRules.{text_of as text_of_name, is_init, is_called, body_of, init_of as init_among, methods_of as methods_among}
use Rattle.py_tree.proofs.ClassRuleLaws.{few_classes}
use Rattle.sf_value.specs.declared.value.Value.{Value}
use Rattle.sf_value.specs.declared.value.Value.TheVariants as value
use Rattle.byte_sizes.specs.Spelt.{IsRealText, IsReal}
use Rattle.program_meaning.specs.ClassTables.{Source, members_of, members_at, methods_of, init_of}
use Rattle.program_meaning.specs.Operations.{text_of}
use Rattle.program_meaning.specs.Evaluation.{entity, literal, class_of}
use Rattle.program_meaning.specs.WrittenInts.{StmtsInts}
use Rattle.program_meaning.specs.NothingGoesWrong.{IsKnownAccepted}
use Rattle.program_meaning.proofs.LightOperations.{bool_light}
use Rattle.program_meaning.proofs.LightCalls.{key_light}
use Rattle.program_meaning.proofs.SmallLaws.{has_each, has_found}
use Rattle.program_meaning.proofs.KeptKinds.{Kinds, ProgramKeeps}
use Rattle.short_runs.specs.RealRuns.{WritesReal, IsRealProgram}
use Rattle.short_runs.proofs.RealValues.{IsLightAndReal, text_real, number_real, items_given, list_real, int_given, nil_given, next_given, weighed_given, range_given, combined_given, given_given}

pub truth_given : (b : Bool) → IsLightAndReal (value.Bool b)
unfolding IsReal
truth_given b = record { light = bool_light b; real = tt }

pub key_given : (class : ℕ) (v : Value) → IsReal (entity (class, [])) → IsLightAndReal v → IsLightAndReal (entity (class, text_of v))
unfolding IsReal
key_given class v made is = record { light = key_light class v is.light; real = (made.0, text_real v is.real) }

-- values that are given are light and real, and what is held, said or written is real
abbrev pub real_kinds : Kinds
real_kinds = record {
  Given = IsLightAndReal;
  Held = IsReal;
  Said = IsRealText;
  Written = FitsSigned w128;
  silent = refl;
  said = λ v is. text_real v is.real;
  held = λ v is. is.real;
  nil = nil_given;
  truth = truth_given;
  int = int_given;
  number = λ v is. int_given _ (number_real v is.real);
  turn = next_given;
  items = items_given;
  list = list_real;
  key = key_given;
  weigh = weighed_given;
  range = range_given;
  both = combined_given;
  apply = given_given;
}

-- ---- the texts and the classes of a program

text_utf8 : (names : List (List ℕ)) (name : ℕ) → All IsUtf8 names → IsUtf8 (text_of_name names name)
unfolding text_of_name
text_utf8 [] name all = IsUtf8-nil
text_utf8 (text ∷ names) zero all = all 0 text (omega arith)
text_utf8 (text ∷ names) (suc name) all = text_utf8 names name (λ k d within. all (suc k) d (omega arith))

literal_real : (src : Source) (name : ℕ) → All IsUtf8 src.names → IsReal (value.Str (literal src name))
unfolding literal IsReal
literal_real src name all = scalars-chars (text_of_name src.names name) (text_utf8 src.names name all)

place_most : {A : Type 0} (p : A → Bool) (i : ℕ) (xs : List A) → unwrap_or (position_from p i xs) 0 ≤ i + length xs
place_most p i [] = omega arith
place_most p i (x ∷ xs) = by (p x) (place_most p (i + 1) xs)
  where
    by : (b : Bool) → unwrap_or (position_from p (i + 1) xs) 0 ≤ i + 1 + length xs → unwrap_or (cond b (Some i) (position_from p (i + 1) xs)) 0 ≤ i + suc (length xs)
    by true most = omega arith
    by false most = omega (arith, most)

class_real : (src : Source) (name : ℕ) → IsKnownAccepted src.names src.program → IsReal (entity (class_of src name, []))
unfolding class_of IsReal
class_real src name accepted =
    let most = place_most (λ (c : PlainClass). nat_eq c.name name) 0 src.program in
    let few = few_classes src.names src.program accepted.rules.classes in
    (omega (arith, most, few), refl)

-- ---- the ints of its methods

body_real : (m : Option PlainMethod) → IfSome m WritesReal → StmtsInts (FitsSigned w128) (stmts_of (body_of m))
unfolding StmtsInts
body_real None real = tt
body_real (Some m) real = real

members_real : (c : Option PlainClass) → IfSome c (λ c. All WritesReal c.members) → All WritesReal (members_of c)
members_real None real = λ k d within. absurd (omega arith)
members_real (Some c) real = real

module _ (src : Source) (real : IsRealProgram src) (class : ℕ) where
  all_real : All WritesReal (members_at src class)
  all_real = members_real (slice_get src.program class) (has_each (λ (c : PlainClass). All WritesReal c.members) src.program class real.ints)

  init_real : StmtsInts (FitsSigned w128) (stmts_of (body_of (init_of src class)))
  unfolding init_among
  init_real = body_real (init_of src class) (has_found WritesReal (λ x. is_init src.names x.name) (members_at src class) all_real)

  method_real : (number : ℕ) → StmtsInts (FitsSigned w128) (stmts_of (body_of (slice_get (methods_of src class) number)))
  unfolding methods_among
  method_real number =
      body_real (slice_get (methods_of src class) number)
      (has_each WritesReal (methods_of src class) number (All-filter (λ x. is_called src.names x.name) WritesReal (members_at src class) all_real))

pub program_real : (src : Source) → IsKnownAccepted src.names src.program → IsRealProgram src → ProgramKeeps real_kinds src
program_real src accepted real = record {
  texts = λ name. literal_real src name real.texts;
  classes = λ name. class_real src name accepted;
  methods = λ class number. method_real src real class number;
  inits = λ class. init_real src real class;
}
