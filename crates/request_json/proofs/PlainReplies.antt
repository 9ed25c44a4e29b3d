-- The data of a real reply are plain.
use Rattle.std.proofs.Common.{◌<◌, ◌^◌, ◌==◌, ℕ, Bool, true, false, List, refl, if◌then◌else◌}
use Rattle.std.specs.Prelude.{codes}
use Rattle.std.specs.Str.{IsUtf8, encode_utf8_all}
use Rattle.json.proofs.Printed.Utf8.{IsUtf8-are_ascii}
use Rattle.sf_value.specs.declared.Outcome.{Outcome}
use Rattle.sf_value.specs.declared.Outcome.TheVariants as outcome
use Rattle.byte_sizes.specs.Spelt.{IsRealText, IsRealOutcome}
use Rattle.json_texts.specs.PlainData.{IsPlain}
use Rattle.request_json.specs.ReplyLines.{int_data, kind_name, reply_data}
use Rattle.request_json.proofs.PassedInts.{int_plain}
use Rattle.request_json.proofs.PlainValues.{value_plain}

either_utf8 : (b : Bool) {x y : List ℕ} → IsUtf8 x → IsUtf8 y → IsUtf8 (if b then x else y)
either_utf8 true x y = x
either_utf8 false x y = y

pub kind_utf8 : (kind : ℕ) → IsUtf8 (kind_name kind)
unfolding kind_name
kind_utf8 kind =
    either_utf8 (kind == 1) (IsUtf8-are_ascii (codes "ZeroDivisionError") refl) (either_utf8 (kind == 2) (IsUtf8-are_ascii (codes "IndexError") refl)
    (either_utf8 (kind == 3) (IsUtf8-are_ascii (codes "AssertionError") refl) (either_utf8 (kind == 4) (IsUtf8-are_ascii (codes "RecursionError") refl)
    (either_utf8 (kind == 5) (IsUtf8-are_ascii (codes "OverflowError") refl) (either_utf8 (kind == 6) (IsUtf8-are_ascii (codes "Exception") refl)
    (either_utf8 (kind == 7) (IsUtf8-are_ascii (codes "ValueError") refl) (either_utf8 (kind == 8) (IsUtf8-are_ascii (codes "RuntimeError") refl)
    (either_utf8 (kind == 9) (IsUtf8-are_ascii (codes "NoEntity") refl) (either_utf8 (kind == 10) (IsUtf8-are_ascii (codes "AlreadyExists") refl)
    (either_utf8 (kind == 11) (IsUtf8-are_ascii (codes "SizeLimit") refl) (IsUtf8-are_ascii (codes "StepLimit") refl)))))))))))

real_utf8 : (text : List ℕ) → IsRealText text → IsUtf8 (encode_utf8_all text)
real_utf8 text real = (text, (real, refl))

pub reply_plain : (id : List ℕ) (o : Outcome) (place : ℕ) → IsRealText id → IsRealOutcome o → place < 2 ^ 64 → IsPlain (reply_data id o place)
reply_plain id (outcome.Value v) place id_real real small =
    (refl, (IsUtf8-are_ascii (codes "id") refl, real_utf8 id id_real, (IsUtf8-are_ascii (codes "ok") refl, value_plain int_data int_plain v real, (IsUtf8-are_ascii (codes "seq") refl, small, tt))))
reply_plain id (outcome.Failed f) place id_real real small = (
  refl,
  (
    IsUtf8-are_ascii (codes "error") refl,
    kind_utf8 f.kind,
    (
      IsUtf8-are_ascii (codes "id") refl,
      real_utf8 id id_real,
      (IsUtf8-are_ascii (codes "message") refl, real_utf8 f.message real, (IsUtf8-are_ascii (codes "seq") refl, small, tt)),
    ),
  ),
)
