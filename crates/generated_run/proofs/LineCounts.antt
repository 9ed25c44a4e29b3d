-- How many lines an input has, by its line ends.
use Rattle.std.proofs.Common.{◌≡◌, ℕ, arith, ◌+◌, ◌≤◌, Bool, true, false, nat_eq, List, [], ◌∷◌, ◌++◌, length, if◌then◌else◌, refl}
use Rattle.std.proofs.lemmas.List.{length-append}
use Rattle.request_json.specs.Actions.{Line, Ended, whole_from, rest_from, last_line, whole_lines, all_lines}
use Rattle.generated_run.proofs.WorkLaws.{line_ends, ends-append}

one_more : (is : Bool) (line : List ℕ) (ended going : List Line) (n : ℕ) → length ended ≡ n → length going ≡ n
    → length (if is then Ended line ∷ ended else going) ≡ (if is then 1 else 0) + n
one_more true line ended going n at_end within = omega arith
one_more false line ended going n at_end within = omega arith

whole_count : (bytes part : List ℕ) → length (whole_from part bytes) ≡ line_ends bytes
unfolding whole_from
whole_count [] part = refl
whole_count (b ∷ bs) part =
    one_more (nat_eq b 10) part (whole_from [] bs) (whole_from (part ++ b ∷ []) bs) (line_ends bs) (whole_count bs [])
    (whole_count bs (part ++ b ∷ []))

at_most_one : (bytes : List ℕ) → length (last_line bytes) ≤ 1
at_most_one [] = omega arith
at_most_one (b ∷ bs) = omega arith

-- a last line without a line end may come besides
pub few_lines : (bytes : List ℕ) → length (all_lines bytes) ≤ line_ends bytes + 1
few_lines bytes = omega (arith, length-append (whole_lines bytes) (last_line (rest_from [] bytes)), whole_count bytes [], at_most_one (rest_from [] bytes))

-- no more lines are whole in its first bytes
pub few_whole_lines : (taken rest : List ℕ) → length (whole_lines taken) ≤ line_ends (taken ++ rest)
few_whole_lines taken rest = omega (arith, whole_count taken [], ends-append taken rest)
