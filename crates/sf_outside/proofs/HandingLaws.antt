-- Of a sink that holds bytes, and counts how many of them it has handed on: what each call leaves of that.
use Rattle.std.proofs.Common.{◌≡◌, ℕ, ◌≤◌, List, [], ◌++◌, length, take, drop, Some, sym, ap, ◌∙◌, append-nil, refl}
use Rattle.std.proofs.Math.Seq.{take-length}
use Rattle.std.proofs.lemmas.List.{take-append-le, take-append-drop}
use Rattle.sf_outside.specs.Handing.{HandsOn, IsHandedOn}

-- bytes are added behind those that were handed on, and none are handed on
pub added_behind : (count : ℕ) (held bytes : List ℕ) → count ≤ length held
    → HandsOn (Some (take count held)) (Some (take count (held ++ bytes))) (Some (held ++ bytes))
added_behind count held bytes within = record {
  more = [];
  grows = take-append-le count held bytes within ∙ sym (append-nil (take count held));
  front = (drop count (held ++ bytes), sym (take-append-drop count (held ++ bytes)));
}

-- nothing is added, and none are handed on
pub handed_none : (count : ℕ) (held : List ℕ) → HandsOn (Some (take count held)) (Some (take count held)) (Some held)
handed_none count held = record {
  more = [];
  grows = sym (append-nil (take count held));
  front = (drop count held, sym (take-append-drop count held));
}

-- all are handed on
pub handed_all : (count : ℕ) (held : List ℕ) → HandsOn (Some (take count held)) (Some (take (length held) held)) (Some held)
handed_all count held = record {
  more = drop count held;
  grows = take-length held ∙ sym (take-append-drop count held);
  front = ([], sym (append-nil (take (length held) held) ∙ take-length held));
}

pub all_handed : (held : List ℕ) → IsHandedOn (Some (take (length held) held)) (Some held)
all_handed held = ap Some (sym (take-length held))
