-- Points as they are made of locals.
use Rattle.std.proofs.Common.{◌≡◌, ℕ, ◌+◌, ◌<◌, List, [], ◌∷◌, ◌++◌, length, take, get_or, sym, ap, ◌∙◌}
use Rattle.std.proofs.lemmas.List.Elements.{filter_map-append}
use Rattle.py_tree.proofs.ListWalks.{map_more}
use Rattle.entity_types.specs.declared.env.Local.{Local}
use Rattle.entity_types.specs.Views.{plain_local, plain_locals}
use Rattle.block_code.specs.declared.vars.VarType.{VarType}
use Rattle.block_code.specs.PlainVars.{plain_vars}
use Rattle.hoisting.specs.Stages.{var_of, surely}

pub vars_more : (xs : List Local) (i : ℕ) (x : Local) (old new : List VarType) → i < length xs → x ≡ get_or xs i x → plain_vars old ≡ surely (plain_locals (take i xs)) → plain_vars new ≡ plain_vars old ++ surely (plain_local x ∷ []) → plain_vars new ≡ surely (plain_locals (take (i + 1) xs))
vars_more xs i x old new within is so_far more =
    more ∙ ap (λ vars. vars ++ surely (plain_local x ∷ [])) so_far ∙ sym (filter_map-append var_of (plain_locals (take i xs)) (plain_local x ∷ [])) ∙ ap surely (sym (map_more plain_local xs i x within is))
