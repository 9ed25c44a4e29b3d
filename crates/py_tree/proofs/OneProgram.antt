-- Reading a program has one outcome at most.
use Rattle.std.proofs.Common.{◌≡◌, ℕ, Bool, List, refl, ap}
use Rattle.py_tree.specs.declared.terminal.Terminal.{Terminal}
use Rattle.py_tree.specs.PlainProgram.{PlainParam, PlainMethod, PlainClass}
use Rattle.py_tree.specs.Reading.{Input, Outcome, Nothing, next, named, next_line, column}
use Rattle.py_tree.specs.Tokens.{PlainLine}
use Rattle.py_tree.specs.Grammar.{Parse, first_input, IsParams, IsMarker, IsSignature, IsDef, IsMethod, IsMethods, IsMembers, IsBrackets, IsHead, IsClass, IsMoreNames, IsNames, IsImported, IsLineEnd, IsImportFrom, IsImport, IsItems, IsFile, params_end, params_last, params_more_stops_t, params_more_stops_ps, params_more, marker_plain_needs_name, marker_plain_needs_line_end, marker_plain, marker_long_needs_dot, marker_long_needs_name, marker_long_needs_line_end, marker_long, signature_is_needs_open, signature_is_needs_selfword, signature_is_stops_ps, signature_is_needs_close, signature_is, def_is_needs_def, def_is_needs_name, def_is_stops_ps, def_is_stops_t, def_is_stops_ys, def_is, method_marked_stops_u, method_marked_needs_line, method_marked, method_plain, methods_end, methods_shifted, methods_more_stops_d, methods_more_stops_ds, methods_more, members_plain, members_missing, members_doc_needs_line_end, members_doc_needs_method, members_doc, brackets_none, brackets_is_needs_close, brackets_is, head_is_needs_class, head_is_needs_name, head_is_stops_u, head_is_needs_colon, head_is_needs_line_end, head_is_stops_ds, head_is, class_is_needs_at, class_is_stops_u, class_is_needs_line, class_is, more_names_end, more_names_more, more_names_last, more_names_other, names_is_needs_name, names_is, imported_plain, imported_enclosed_stops_u, imported_enclosed_needs_close, imported_enclosed, line_end_is_needs_line_end, line_end_is, import_from_is_needs_module, import_from_is_needs_import, import_from_is_stops_u, import_from_is, import_from, import_whole_needs_import, import_whole_needs_stateflowword, import_whole, items_end, items_shifted, items_import_stops_u, items_import, items_class_stops_d, items_class_stops_ds, items_class, file_doc_needs_line_end, file_doc, file_plain, IsProgram, program_is, program_stops}
use Rattle.py_tree.proofs.OneOutcome.{same_rest, same_part}
use Rattle.py_tree.proofs.OneType.{annotation_one}
use Rattle.py_tree.proofs.OneStatement.{body_one}

pub params_one : {n n' : ℕ} {i i' : Input} {o o' : Outcome (List PlainParam)} → IsParams n i o → n ≡ n' → i ≡ i' → IsParams n' i' o' → o ≡ o'
params_one (params_end h0) en ei (params_end h0') = cc
params_one (params_end h0) en ei (params_last h0' h1') = cc
params_one (params_end h0) en ei (params_more_stops_t h0' h1' h2') = cc
params_one (params_end h0) en ei (params_more_stops_ps h0' h1' h2' h3') = cc
params_one (params_end h0) en ei (params_more h0' h1' h2' h3') = cc
params_one (params_last h0 h1) en ei (params_end h0') = cc
params_one (params_last h0 h1) en ei (params_last h0' h1') = cc
params_one (params_last h0 h1) en ei (params_more_stops_t h0' h1' h2') = cc
params_one (params_last h0 h1) en ei (params_more_stops_ps h0' h1' h2' h3') = cc
params_one (params_last h0 h1) en ei (params_more h0' h1' h2' h3') = cc
params_one (params_more_stops_t h0 h1 h2) en ei (params_end h0') = cc
params_one (params_more_stops_t h0 h1 h2) en ei (params_last h0' h1') = cc
params_one (params_more_stops_t h0 h1 h2) en ei (params_more_stops_t h0' h1' h2') = let s1 = annotation_one h2 en refl (ap (λ z. named (next z)) ei) h2' in cc
params_one (params_more_stops_t h0 h1 h2) en ei (params_more_stops_ps h0' h1' h2' h3') = let s1 = annotation_one h2 en refl (ap (λ z. named (next z)) ei) h2' in cc
params_one (params_more_stops_t h0 h1 h2) en ei (params_more h0' h1' h2' h3') = let s1 = annotation_one h2 en refl (ap (λ z. named (next z)) ei) h2' in cc
params_one (params_more_stops_ps h0 h1 h2 h3) en ei (params_end h0') = cc
params_one (params_more_stops_ps h0 h1 h2 h3) en ei (params_last h0' h1') = cc
params_one (params_more_stops_ps h0 h1 h2 h3) en ei (params_more_stops_t h0' h1' h2') = let s1 = annotation_one h2 en refl (ap (λ z. named (next z)) ei) h2' in cc
params_one (params_more_stops_ps h0 h1 h2 h3) en ei (params_more_stops_ps h0' h1' h2' h3') = let s1 = annotation_one h2 en refl (ap (λ z. named (next z)) ei) h2' in let s2 = params_one h3 en (same_rest s1) h3' in cc
params_one (params_more_stops_ps h0 h1 h2 h3) en ei (params_more h0' h1' h2' h3') = let s1 = annotation_one h2 en refl (ap (λ z. named (next z)) ei) h2' in let s2 = params_one h3 en (same_rest s1) h3' in cc
params_one (params_more h0 h1 h2 h3) en ei (params_end h0') = cc
params_one (params_more h0 h1 h2 h3) en ei (params_last h0' h1') = cc
params_one (params_more h0 h1 h2 h3) en ei (params_more_stops_t h0' h1' h2') = let s1 = annotation_one h2 en refl (ap (λ z. named (next z)) ei) h2' in cc
params_one (params_more h0 h1 h2 h3) en ei (params_more_stops_ps h0' h1' h2' h3') = let s1 = annotation_one h2 en refl (ap (λ z. named (next z)) ei) h2' in let s2 = params_one h3 en (same_rest s1) h3' in cc
params_one (params_more h0 h1 h2 h3) en ei (params_more h0' h1' h2' h3') = let s1 = annotation_one h2 en refl (ap (λ z. named (next z)) ei) h2' in let s2 = params_one h3 en (same_rest s1) h3' in cc

pub marker_one : {c c' : Terminal} {i i' : Input} {o o' : Outcome Nothing} → IsMarker c i o → c ≡ c' → i ≡ i' → IsMarker c' i' o' → o ≡ o'
marker_one (marker_plain_needs_name h0 h1) ec ei (marker_plain_needs_name h0' h1') = cc
marker_one (marker_plain_needs_name h0 h1) ec ei (marker_plain_needs_line_end h0' h1' h2') = cc
marker_one (marker_plain_needs_name h0 h1) ec ei (marker_plain h0' h1' h2') = cc
marker_one (marker_plain_needs_name h0 h1) ec ei (marker_long_needs_dot h0' h1') = cc
marker_one (marker_plain_needs_name h0 h1) ec ei (marker_long_needs_name h0' h1' h2') = cc
marker_one (marker_plain_needs_name h0 h1) ec ei (marker_long_needs_line_end h0' h1' h2' h3') = cc
marker_one (marker_plain_needs_name h0 h1) ec ei (marker_long h0' h1' h2' h3') = cc
marker_one (marker_plain_needs_line_end h0 h1 h2) ec ei (marker_plain_needs_name h0' h1') = cc
marker_one (marker_plain_needs_line_end h0 h1 h2) ec ei (marker_plain_needs_line_end h0' h1' h2') = cc
marker_one (marker_plain_needs_line_end h0 h1 h2) ec ei (marker_plain h0' h1' h2') = cc
marker_one (marker_plain_needs_line_end h0 h1 h2) ec ei (marker_long_needs_dot h0' h1') = cc
marker_one (marker_plain_needs_line_end h0 h1 h2) ec ei (marker_long_needs_name h0' h1' h2') = cc
marker_one (marker_plain_needs_line_end h0 h1 h2) ec ei (marker_long_needs_line_end h0' h1' h2' h3') = cc
marker_one (marker_plain_needs_line_end h0 h1 h2) ec ei (marker_long h0' h1' h2' h3') = cc
marker_one (marker_plain h0 h1 h2) ec ei (marker_plain_needs_name h0' h1') = cc
marker_one (marker_plain h0 h1 h2) ec ei (marker_plain_needs_line_end h0' h1' h2') = cc
marker_one (marker_plain h0 h1 h2) ec ei (marker_plain h0' h1' h2') = cc
marker_one (marker_plain h0 h1 h2) ec ei (marker_long_needs_dot h0' h1') = cc
marker_one (marker_plain h0 h1 h2) ec ei (marker_long_needs_name h0' h1' h2') = cc
marker_one (marker_plain h0 h1 h2) ec ei (marker_long_needs_line_end h0' h1' h2' h3') = cc
marker_one (marker_plain h0 h1 h2) ec ei (marker_long h0' h1' h2' h3') = cc
marker_one (marker_long_needs_dot h0 h1) ec ei (marker_plain_needs_name h0' h1') = cc
marker_one (marker_long_needs_dot h0 h1) ec ei (marker_plain_needs_line_end h0' h1' h2') = cc
marker_one (marker_long_needs_dot h0 h1) ec ei (marker_plain h0' h1' h2') = cc
marker_one (marker_long_needs_dot h0 h1) ec ei (marker_long_needs_dot h0' h1') = cc
marker_one (marker_long_needs_dot h0 h1) ec ei (marker_long_needs_name h0' h1' h2') = cc
marker_one (marker_long_needs_dot h0 h1) ec ei (marker_long_needs_line_end h0' h1' h2' h3') = cc
marker_one (marker_long_needs_dot h0 h1) ec ei (marker_long h0' h1' h2' h3') = cc
marker_one (marker_long_needs_name h0 h1 h2) ec ei (marker_plain_needs_name h0' h1') = cc
marker_one (marker_long_needs_name h0 h1 h2) ec ei (marker_plain_needs_line_end h0' h1' h2') = cc
marker_one (marker_long_needs_name h0 h1 h2) ec ei (marker_plain h0' h1' h2') = cc
marker_one (marker_long_needs_name h0 h1 h2) ec ei (marker_long_needs_dot h0' h1') = cc
marker_one (marker_long_needs_name h0 h1 h2) ec ei (marker_long_needs_name h0' h1' h2') = cc
marker_one (marker_long_needs_name h0 h1 h2) ec ei (marker_long_needs_line_end h0' h1' h2' h3') = cc
marker_one (marker_long_needs_name h0 h1 h2) ec ei (marker_long h0' h1' h2' h3') = cc
marker_one (marker_long_needs_line_end h0 h1 h2 h3) ec ei (marker_plain_needs_name h0' h1') = cc
marker_one (marker_long_needs_line_end h0 h1 h2 h3) ec ei (marker_plain_needs_line_end h0' h1' h2') = cc
marker_one (marker_long_needs_line_end h0 h1 h2 h3) ec ei (marker_plain h0' h1' h2') = cc
marker_one (marker_long_needs_line_end h0 h1 h2 h3) ec ei (marker_long_needs_dot h0' h1') = cc
marker_one (marker_long_needs_line_end h0 h1 h2 h3) ec ei (marker_long_needs_name h0' h1' h2') = cc
marker_one (marker_long_needs_line_end h0 h1 h2 h3) ec ei (marker_long_needs_line_end h0' h1' h2' h3') = cc
marker_one (marker_long_needs_line_end h0 h1 h2 h3) ec ei (marker_long h0' h1' h2' h3') = cc
marker_one (marker_long h0 h1 h2 h3) ec ei (marker_plain_needs_name h0' h1') = cc
marker_one (marker_long h0 h1 h2 h3) ec ei (marker_plain_needs_line_end h0' h1' h2') = cc
marker_one (marker_long h0 h1 h2 h3) ec ei (marker_plain h0' h1' h2') = cc
marker_one (marker_long h0 h1 h2 h3) ec ei (marker_long_needs_dot h0' h1') = cc
marker_one (marker_long h0 h1 h2 h3) ec ei (marker_long_needs_name h0' h1' h2') = cc
marker_one (marker_long h0 h1 h2 h3) ec ei (marker_long_needs_line_end h0' h1' h2' h3') = cc
marker_one (marker_long h0 h1 h2 h3) ec ei (marker_long h0' h1' h2' h3') = cc

pub signature_one : {i i' : Input} {o o' : Outcome (List PlainParam)} → IsSignature i o → i ≡ i' → IsSignature i' o' → o ≡ o'
signature_one (signature_is_needs_open h0) ei (signature_is_needs_open h0') = cc
signature_one (signature_is_needs_open h0) ei (signature_is_needs_selfword h0' h1') = cc
signature_one (signature_is_needs_open h0) ei (signature_is_stops_ps h0' h1' h2') = cc
signature_one (signature_is_needs_open h0) ei (signature_is_needs_close h0' h1' h2' h3') = cc
signature_one (signature_is_needs_open h0) ei (signature_is h0' h1' h2' h3') = cc
signature_one (signature_is_needs_selfword h0 h1) ei (signature_is_needs_open h0') = cc
signature_one (signature_is_needs_selfword h0 h1) ei (signature_is_needs_selfword h0' h1') = cc
signature_one (signature_is_needs_selfword h0 h1) ei (signature_is_stops_ps h0' h1' h2') = cc
signature_one (signature_is_needs_selfword h0 h1) ei (signature_is_needs_close h0' h1' h2' h3') = cc
signature_one (signature_is_needs_selfword h0 h1) ei (signature_is h0' h1' h2' h3') = cc
signature_one (signature_is_stops_ps h0 h1 h2) ei (signature_is_needs_open h0') = cc
signature_one (signature_is_stops_ps h0 h1 h2) ei (signature_is_needs_selfword h0' h1') = cc
signature_one (signature_is_stops_ps h0 h1 h2) ei (signature_is_stops_ps h0' h1' h2') = let s1 = params_one h2 refl (ap (λ z. next (next z)) ei) h2' in cc
signature_one (signature_is_stops_ps h0 h1 h2) ei (signature_is_needs_close h0' h1' h2' h3') = let s1 = params_one h2 refl (ap (λ z. next (next z)) ei) h2' in cc
signature_one (signature_is_stops_ps h0 h1 h2) ei (signature_is h0' h1' h2' h3') = let s1 = params_one h2 refl (ap (λ z. next (next z)) ei) h2' in cc
signature_one (signature_is_needs_close h0 h1 h2 h3) ei (signature_is_needs_open h0') = cc
signature_one (signature_is_needs_close h0 h1 h2 h3) ei (signature_is_needs_selfword h0' h1') = cc
signature_one (signature_is_needs_close h0 h1 h2 h3) ei (signature_is_stops_ps h0' h1' h2') = let s1 = params_one h2 refl (ap (λ z. next (next z)) ei) h2' in cc
signature_one (signature_is_needs_close h0 h1 h2 h3) ei (signature_is_needs_close h0' h1' h2' h3') = let s1 = params_one h2 refl (ap (λ z. next (next z)) ei) h2' in cc
signature_one (signature_is_needs_close h0 h1 h2 h3) ei (signature_is h0' h1' h2' h3') = let s1 = params_one h2 refl (ap (λ z. next (next z)) ei) h2' in cc
signature_one (signature_is h0 h1 h2 h3) ei (signature_is_needs_open h0') = cc
signature_one (signature_is h0 h1 h2 h3) ei (signature_is_needs_selfword h0' h1') = cc
signature_one (signature_is h0 h1 h2 h3) ei (signature_is_stops_ps h0' h1' h2') = let s1 = params_one h2 refl (ap (λ z. next (next z)) ei) h2' in cc
signature_one (signature_is h0 h1 h2 h3) ei (signature_is_needs_close h0' h1' h2' h3') = let s1 = params_one h2 refl (ap (λ z. next (next z)) ei) h2' in cc
signature_one (signature_is h0 h1 h2 h3) ei (signature_is h0' h1' h2' h3') = let s1 = params_one h2 refl (ap (λ z. next (next z)) ei) h2' in cc

pub def_one : {c c' : ℕ} {i i' : Input} {o o' : Outcome PlainMethod} → IsDef c i o → c ≡ c' → i ≡ i' → IsDef c' i' o' → o ≡ o'
def_one (def_is_needs_def h0) ec ei (def_is_needs_def h0') = cc
def_one (def_is_needs_def h0) ec ei (def_is_needs_name h0' h1') = cc
def_one (def_is_needs_def h0) ec ei (def_is_stops_ps h0' h1' h2') = cc
def_one (def_is_needs_def h0) ec ei (def_is_stops_t h0' h1' h2' h3') = cc
def_one (def_is_needs_def h0) ec ei (def_is_stops_ys h0' h1' h2' h3' h4') = cc
def_one (def_is_needs_def h0) ec ei (def_is h0' h1' h2' h3' h4') = cc
def_one (def_is_needs_name h0 h1) ec ei (def_is_needs_def h0') = cc
def_one (def_is_needs_name h0 h1) ec ei (def_is_needs_name h0' h1') = cc
def_one (def_is_needs_name h0 h1) ec ei (def_is_stops_ps h0' h1' h2') = cc
def_one (def_is_needs_name h0 h1) ec ei (def_is_stops_t h0' h1' h2' h3') = cc
def_one (def_is_needs_name h0 h1) ec ei (def_is_stops_ys h0' h1' h2' h3' h4') = cc
def_one (def_is_needs_name h0 h1) ec ei (def_is h0' h1' h2' h3' h4') = cc
def_one (def_is_stops_ps h0 h1 h2) ec ei (def_is_needs_def h0') = cc
def_one (def_is_stops_ps h0 h1 h2) ec ei (def_is_needs_name h0' h1') = cc
def_one (def_is_stops_ps h0 h1 h2) ec ei (def_is_stops_ps h0' h1' h2') = let s1 = signature_one h2 (ap (λ z. named (next z)) ei) h2' in cc
def_one (def_is_stops_ps h0 h1 h2) ec ei (def_is_stops_t h0' h1' h2' h3') = let s1 = signature_one h2 (ap (λ z. named (next z)) ei) h2' in cc
def_one (def_is_stops_ps h0 h1 h2) ec ei (def_is_stops_ys h0' h1' h2' h3' h4') = let s1 = signature_one h2 (ap (λ z. named (next z)) ei) h2' in cc
def_one (def_is_stops_ps h0 h1 h2) ec ei (def_is h0' h1' h2' h3' h4') = let s1 = signature_one h2 (ap (λ z. named (next z)) ei) h2' in cc
def_one (def_is_stops_t h0 h1 h2 h3) ec ei (def_is_needs_def h0') = cc
def_one (def_is_stops_t h0 h1 h2 h3) ec ei (def_is_needs_name h0' h1') = cc
def_one (def_is_stops_t h0 h1 h2 h3) ec ei (def_is_stops_ps h0' h1' h2') = let s1 = signature_one h2 (ap (λ z. named (next z)) ei) h2' in cc
def_one (def_is_stops_t h0 h1 h2 h3) ec ei (def_is_stops_t h0' h1' h2' h3') = let s1 = signature_one h2 (ap (λ z. named (next z)) ei) h2' in let s2 = annotation_one h3 refl refl (same_rest s1) h3' in cc
def_one (def_is_stops_t h0 h1 h2 h3) ec ei (def_is_stops_ys h0' h1' h2' h3' h4') = let s1 = signature_one h2 (ap (λ z. named (next z)) ei) h2' in let s2 = annotation_one h3 refl refl (same_rest s1) h3' in cc
def_one (def_is_stops_t h0 h1 h2 h3) ec ei (def_is h0' h1' h2' h3' h4') = let s1 = signature_one h2 (ap (λ z. named (next z)) ei) h2' in let s2 = annotation_one h3 refl refl (same_rest s1) h3' in cc
def_one (def_is_stops_ys h0 h1 h2 h3 h4) ec ei (def_is_needs_def h0') = cc
def_one (def_is_stops_ys h0 h1 h2 h3 h4) ec ei (def_is_needs_name h0' h1') = cc
def_one (def_is_stops_ys h0 h1 h2 h3 h4) ec ei (def_is_stops_ps h0' h1' h2') = let s1 = signature_one h2 (ap (λ z. named (next z)) ei) h2' in cc
def_one (def_is_stops_ys h0 h1 h2 h3 h4) ec ei (def_is_stops_t h0' h1' h2' h3') = let s1 = signature_one h2 (ap (λ z. named (next z)) ei) h2' in let s2 = annotation_one h3 refl refl (same_rest s1) h3' in cc
def_one (def_is_stops_ys h0 h1 h2 h3 h4) ec ei (def_is_stops_ys h0' h1' h2' h3' h4') = let s1 = signature_one h2 (ap (λ z. named (next z)) ei) h2' in let s2 = annotation_one h3 refl refl (same_rest s1) h3' in let s3 = body_one h4 refl ec (same_rest s2) h4' in cc
def_one (def_is_stops_ys h0 h1 h2 h3 h4) ec ei (def_is h0' h1' h2' h3' h4') = let s1 = signature_one h2 (ap (λ z. named (next z)) ei) h2' in let s2 = annotation_one h3 refl refl (same_rest s1) h3' in let s3 = body_one h4 refl ec (same_rest s2) h4' in cc
def_one (def_is h0 h1 h2 h3 h4) ec ei (def_is_needs_def h0') = cc
def_one (def_is h0 h1 h2 h3 h4) ec ei (def_is_needs_name h0' h1') = cc
def_one (def_is h0 h1 h2 h3 h4) ec ei (def_is_stops_ps h0' h1' h2') = let s1 = signature_one h2 (ap (λ z. named (next z)) ei) h2' in cc
def_one (def_is h0 h1 h2 h3 h4) ec ei (def_is_stops_t h0' h1' h2' h3') = let s1 = signature_one h2 (ap (λ z. named (next z)) ei) h2' in let s2 = annotation_one h3 refl refl (same_rest s1) h3' in cc
def_one (def_is h0 h1 h2 h3 h4) ec ei (def_is_stops_ys h0' h1' h2' h3' h4') = let s1 = signature_one h2 (ap (λ z. named (next z)) ei) h2' in let s2 = annotation_one h3 refl refl (same_rest s1) h3' in let s3 = body_one h4 refl ec (same_rest s2) h4' in cc
def_one (def_is h0 h1 h2 h3 h4) ec ei (def_is h0' h1' h2' h3' h4') = let s1 = signature_one h2 (ap (λ z. named (next z)) ei) h2' in let s2 = annotation_one h3 refl refl (same_rest s1) h3' in let s3 = body_one h4 refl ec (same_rest s2) h4' in cc

pub method_one : {c c' : ℕ} {i i' : Input} {o o' : Outcome PlainMethod} → IsMethod c i o → c ≡ c' → i ≡ i' → IsMethod c' i' o' → o ≡ o'
method_one (method_marked_stops_u h0 h1) ec ei (method_marked_stops_u h0' h1') = let s1 = marker_one h1 refl (ap (λ z. next z) ei) h1' in cc
method_one (method_marked_stops_u h0 h1) ec ei (method_marked_needs_line h0' h1' h2') = let s1 = marker_one h1 refl (ap (λ z. next z) ei) h1' in cc
method_one (method_marked_stops_u h0 h1) ec ei (method_marked h0' h1' h2' h3') = let s1 = marker_one h1 refl (ap (λ z. next z) ei) h1' in cc
method_one (method_marked_stops_u h0 h1) ec ei (method_plain h0' h1') = cc
method_one (method_marked_needs_line h0 h1 h2) ec ei (method_marked_stops_u h0' h1') = let s1 = marker_one h1 refl (ap (λ z. next z) ei) h1' in cc
method_one (method_marked_needs_line h0 h1 h2) ec ei (method_marked_needs_line h0' h1' h2') = let s1 = marker_one h1 refl (ap (λ z. next z) ei) h1' in cc
method_one (method_marked_needs_line h0 h1 h2) ec ei (method_marked h0' h1' h2' h3') = let s1 = marker_one h1 refl (ap (λ z. next z) ei) h1' in cc
method_one (method_marked_needs_line h0 h1 h2) ec ei (method_plain h0' h1') = cc
method_one (method_marked h0 h1 h2 h3) ec ei (method_marked_stops_u h0' h1') = let s1 = marker_one h1 refl (ap (λ z. next z) ei) h1' in cc
method_one (method_marked h0 h1 h2 h3) ec ei (method_marked_needs_line h0' h1' h2') = let s1 = marker_one h1 refl (ap (λ z. next z) ei) h1' in cc
method_one (method_marked h0 h1 h2 h3) ec ei (method_marked h0' h1' h2' h3') = let s1 = marker_one h1 refl (ap (λ z. next z) ei) h1' in let s2 = def_one h3 ec (ap (λ z. next_line z) (same_rest s1)) h3' in cc
method_one (method_marked h0 h1 h2 h3) ec ei (method_plain h0' h1') = cc
method_one (method_plain h0 h1) ec ei (method_marked_stops_u h0' h1') = cc
method_one (method_plain h0 h1) ec ei (method_marked_needs_line h0' h1' h2') = cc
method_one (method_plain h0 h1) ec ei (method_marked h0' h1' h2' h3') = cc
method_one (method_plain h0 h1) ec ei (method_plain h0' h1') = let s1 = def_one h1 ec ei h1' in cc

pub methods_one : {c c' : ℕ} {i i' : Input} {o o' : Outcome (List PlainMethod)} → IsMethods c i o → c ≡ c' → i ≡ i' → IsMethods c' i' o' → o ≡ o'
methods_one (methods_end h0) ec ei (methods_end h0') = cc
methods_one (methods_end h0) ec ei (methods_shifted h0' h1') = cc
methods_one (methods_end h0) ec ei (methods_more_stops_d h0' h1' h2') = cc
methods_one (methods_end h0) ec ei (methods_more_stops_ds h0' h1' h2' h3') = cc
methods_one (methods_end h0) ec ei (methods_more h0' h1' h2' h3') = cc
methods_one (methods_shifted h0 h1) ec ei (methods_end h0') = cc
methods_one (methods_shifted h0 h1) ec ei (methods_shifted h0' h1') = cc
methods_one (methods_shifted h0 h1) ec ei (methods_more_stops_d h0' h1' h2') = cc
methods_one (methods_shifted h0 h1) ec ei (methods_more_stops_ds h0' h1' h2' h3') = cc
methods_one (methods_shifted h0 h1) ec ei (methods_more h0' h1' h2' h3') = cc
methods_one (methods_more_stops_d h0 h1 h2) ec ei (methods_end h0') = cc
methods_one (methods_more_stops_d h0 h1 h2) ec ei (methods_shifted h0' h1') = cc
methods_one (methods_more_stops_d h0 h1 h2) ec ei (methods_more_stops_d h0' h1' h2') = let s1 = method_one h2 ec (ap (λ z. next_line z) ei) h2' in cc
methods_one (methods_more_stops_d h0 h1 h2) ec ei (methods_more_stops_ds h0' h1' h2' h3') = let s1 = method_one h2 ec (ap (λ z. next_line z) ei) h2' in cc
methods_one (methods_more_stops_d h0 h1 h2) ec ei (methods_more h0' h1' h2' h3') = let s1 = method_one h2 ec (ap (λ z. next_line z) ei) h2' in cc
methods_one (methods_more_stops_ds h0 h1 h2 h3) ec ei (methods_end h0') = cc
methods_one (methods_more_stops_ds h0 h1 h2 h3) ec ei (methods_shifted h0' h1') = cc
methods_one (methods_more_stops_ds h0 h1 h2 h3) ec ei (methods_more_stops_d h0' h1' h2') = let s1 = method_one h2 ec (ap (λ z. next_line z) ei) h2' in cc
methods_one (methods_more_stops_ds h0 h1 h2 h3) ec ei (methods_more_stops_ds h0' h1' h2' h3') = let s1 = method_one h2 ec (ap (λ z. next_line z) ei) h2' in let s2 = methods_one h3 ec (same_rest s1) h3' in cc
methods_one (methods_more_stops_ds h0 h1 h2 h3) ec ei (methods_more h0' h1' h2' h3') = let s1 = method_one h2 ec (ap (λ z. next_line z) ei) h2' in let s2 = methods_one h3 ec (same_rest s1) h3' in cc
methods_one (methods_more h0 h1 h2 h3) ec ei (methods_end h0') = cc
methods_one (methods_more h0 h1 h2 h3) ec ei (methods_shifted h0' h1') = cc
methods_one (methods_more h0 h1 h2 h3) ec ei (methods_more_stops_d h0' h1' h2') = let s1 = method_one h2 ec (ap (λ z. next_line z) ei) h2' in cc
methods_one (methods_more h0 h1 h2 h3) ec ei (methods_more_stops_ds h0' h1' h2' h3') = let s1 = method_one h2 ec (ap (λ z. next_line z) ei) h2' in let s2 = methods_one h3 ec (same_rest s1) h3' in cc
methods_one (methods_more h0 h1 h2 h3) ec ei (methods_more h0' h1' h2' h3') = let s1 = method_one h2 ec (ap (λ z. next_line z) ei) h2' in let s2 = methods_one h3 ec (same_rest s1) h3' in cc

pub members_one : {i i' : Input} {o o' : Outcome (List PlainMethod)} → IsMembers i o → i ≡ i' → IsMembers i' o' → o ≡ o'
members_one (members_plain h0 h1 h2) ei (members_plain h0' h1' h2') = let s1 = methods_one h2 (ap (λ z. column z) ei) ei h2' in cc
members_one (members_plain h0 h1 h2) ei (members_missing h0' h1') = cc
members_one (members_plain h0 h1 h2) ei (members_doc_needs_line_end h0' h1') = cc
members_one (members_plain h0 h1 h2) ei (members_doc_needs_method h0' h1' h2') = cc
members_one (members_plain h0 h1 h2) ei (members_doc h0' h1' h2' h3') = cc
members_one (members_missing h0 h1) ei (members_plain h0' h1' h2') = cc
members_one (members_missing h0 h1) ei (members_missing h0' h1') = cc
members_one (members_missing h0 h1) ei (members_doc_needs_line_end h0' h1') = cc
members_one (members_missing h0 h1) ei (members_doc_needs_method h0' h1' h2') = cc
members_one (members_missing h0 h1) ei (members_doc h0' h1' h2' h3') = cc
members_one (members_doc_needs_line_end h0 h1) ei (members_plain h0' h1' h2') = cc
members_one (members_doc_needs_line_end h0 h1) ei (members_missing h0' h1') = cc
members_one (members_doc_needs_line_end h0 h1) ei (members_doc_needs_line_end h0' h1') = cc
members_one (members_doc_needs_line_end h0 h1) ei (members_doc_needs_method h0' h1' h2') = cc
members_one (members_doc_needs_line_end h0 h1) ei (members_doc h0' h1' h2' h3') = cc
members_one (members_doc_needs_method h0 h1 h2) ei (members_plain h0' h1' h2') = cc
members_one (members_doc_needs_method h0 h1 h2) ei (members_missing h0' h1') = cc
members_one (members_doc_needs_method h0 h1 h2) ei (members_doc_needs_line_end h0' h1') = cc
members_one (members_doc_needs_method h0 h1 h2) ei (members_doc_needs_method h0' h1' h2') = cc
members_one (members_doc_needs_method h0 h1 h2) ei (members_doc h0' h1' h2' h3') = cc
members_one (members_doc h0 h1 h2 h3) ei (members_plain h0' h1' h2') = cc
members_one (members_doc h0 h1 h2 h3) ei (members_missing h0' h1') = cc
members_one (members_doc h0 h1 h2 h3) ei (members_doc_needs_line_end h0' h1') = cc
members_one (members_doc h0 h1 h2 h3) ei (members_doc_needs_method h0' h1' h2') = cc
members_one (members_doc h0 h1 h2 h3) ei (members_doc h0' h1' h2' h3') = let s1 = methods_one h3 (ap (λ z. column z) ei) (ap (λ z. next (next_line z)) ei) h3' in cc

pub brackets_one : {i i' : Input} {o o' : Outcome Nothing} → IsBrackets i o → i ≡ i' → IsBrackets i' o' → o ≡ o'
brackets_one (brackets_none h0) ei (brackets_none h0') = cc
brackets_one (brackets_none h0) ei (brackets_is_needs_close h0' h1') = cc
brackets_one (brackets_none h0) ei (brackets_is h0' h1') = cc
brackets_one (brackets_is_needs_close h0 h1) ei (brackets_none h0') = cc
brackets_one (brackets_is_needs_close h0 h1) ei (brackets_is_needs_close h0' h1') = cc
brackets_one (brackets_is_needs_close h0 h1) ei (brackets_is h0' h1') = cc
brackets_one (brackets_is h0 h1) ei (brackets_none h0') = cc
brackets_one (brackets_is h0 h1) ei (brackets_is_needs_close h0' h1') = cc
brackets_one (brackets_is h0 h1) ei (brackets_is h0' h1') = cc

pub head_one : {i i' : Input} {o o' : Outcome PlainClass} → IsHead i o → i ≡ i' → IsHead i' o' → o ≡ o'
head_one (head_is_needs_class h0) ei (head_is_needs_class h0') = cc
head_one (head_is_needs_class h0) ei (head_is_needs_name h0' h1') = cc
head_one (head_is_needs_class h0) ei (head_is_stops_u h0' h1' h2') = cc
head_one (head_is_needs_class h0) ei (head_is_needs_colon h0' h1' h2' h3') = cc
head_one (head_is_needs_class h0) ei (head_is_needs_line_end h0' h1' h2' h3' h4') = cc
head_one (head_is_needs_class h0) ei (head_is_stops_ds h0' h1' h2' h3' h4' h5') = cc
head_one (head_is_needs_class h0) ei (head_is h0' h1' h2' h3' h4' h5') = cc
head_one (head_is_needs_name h0 h1) ei (head_is_needs_class h0') = cc
head_one (head_is_needs_name h0 h1) ei (head_is_needs_name h0' h1') = cc
head_one (head_is_needs_name h0 h1) ei (head_is_stops_u h0' h1' h2') = cc
head_one (head_is_needs_name h0 h1) ei (head_is_needs_colon h0' h1' h2' h3') = cc
head_one (head_is_needs_name h0 h1) ei (head_is_needs_line_end h0' h1' h2' h3' h4') = cc
head_one (head_is_needs_name h0 h1) ei (head_is_stops_ds h0' h1' h2' h3' h4' h5') = cc
head_one (head_is_needs_name h0 h1) ei (head_is h0' h1' h2' h3' h4' h5') = cc
head_one (head_is_stops_u h0 h1 h2) ei (head_is_needs_class h0') = cc
head_one (head_is_stops_u h0 h1 h2) ei (head_is_needs_name h0' h1') = cc
head_one (head_is_stops_u h0 h1 h2) ei (head_is_stops_u h0' h1' h2') = let s1 = brackets_one h2 (ap (λ z. named (next z)) ei) h2' in cc
head_one (head_is_stops_u h0 h1 h2) ei (head_is_needs_colon h0' h1' h2' h3') = let s1 = brackets_one h2 (ap (λ z. named (next z)) ei) h2' in cc
head_one (head_is_stops_u h0 h1 h2) ei (head_is_needs_line_end h0' h1' h2' h3' h4') = let s1 = brackets_one h2 (ap (λ z. named (next z)) ei) h2' in cc
head_one (head_is_stops_u h0 h1 h2) ei (head_is_stops_ds h0' h1' h2' h3' h4' h5') = let s1 = brackets_one h2 (ap (λ z. named (next z)) ei) h2' in cc
head_one (head_is_stops_u h0 h1 h2) ei (head_is h0' h1' h2' h3' h4' h5') = let s1 = brackets_one h2 (ap (λ z. named (next z)) ei) h2' in cc
head_one (head_is_needs_colon h0 h1 h2 h3) ei (head_is_needs_class h0') = cc
head_one (head_is_needs_colon h0 h1 h2 h3) ei (head_is_needs_name h0' h1') = cc
head_one (head_is_needs_colon h0 h1 h2 h3) ei (head_is_stops_u h0' h1' h2') = let s1 = brackets_one h2 (ap (λ z. named (next z)) ei) h2' in cc
head_one (head_is_needs_colon h0 h1 h2 h3) ei (head_is_needs_colon h0' h1' h2' h3') = let s1 = brackets_one h2 (ap (λ z. named (next z)) ei) h2' in cc
head_one (head_is_needs_colon h0 h1 h2 h3) ei (head_is_needs_line_end h0' h1' h2' h3' h4') = let s1 = brackets_one h2 (ap (λ z. named (next z)) ei) h2' in cc
head_one (head_is_needs_colon h0 h1 h2 h3) ei (head_is_stops_ds h0' h1' h2' h3' h4' h5') = let s1 = brackets_one h2 (ap (λ z. named (next z)) ei) h2' in cc
head_one (head_is_needs_colon h0 h1 h2 h3) ei (head_is h0' h1' h2' h3' h4' h5') = let s1 = brackets_one h2 (ap (λ z. named (next z)) ei) h2' in cc
head_one (head_is_needs_line_end h0 h1 h2 h3 h4) ei (head_is_needs_class h0') = cc
head_one (head_is_needs_line_end h0 h1 h2 h3 h4) ei (head_is_needs_name h0' h1') = cc
head_one (head_is_needs_line_end h0 h1 h2 h3 h4) ei (head_is_stops_u h0' h1' h2') = let s1 = brackets_one h2 (ap (λ z. named (next z)) ei) h2' in cc
head_one (head_is_needs_line_end h0 h1 h2 h3 h4) ei (head_is_needs_colon h0' h1' h2' h3') = let s1 = brackets_one h2 (ap (λ z. named (next z)) ei) h2' in cc
head_one (head_is_needs_line_end h0 h1 h2 h3 h4) ei (head_is_needs_line_end h0' h1' h2' h3' h4') = let s1 = brackets_one h2 (ap (λ z. named (next z)) ei) h2' in cc
head_one (head_is_needs_line_end h0 h1 h2 h3 h4) ei (head_is_stops_ds h0' h1' h2' h3' h4' h5') = let s1 = brackets_one h2 (ap (λ z. named (next z)) ei) h2' in cc
head_one (head_is_needs_line_end h0 h1 h2 h3 h4) ei (head_is h0' h1' h2' h3' h4' h5') = let s1 = brackets_one h2 (ap (λ z. named (next z)) ei) h2' in cc
head_one (head_is_stops_ds h0 h1 h2 h3 h4 h5) ei (head_is_needs_class h0') = cc
head_one (head_is_stops_ds h0 h1 h2 h3 h4 h5) ei (head_is_needs_name h0' h1') = cc
head_one (head_is_stops_ds h0 h1 h2 h3 h4 h5) ei (head_is_stops_u h0' h1' h2') = let s1 = brackets_one h2 (ap (λ z. named (next z)) ei) h2' in cc
head_one (head_is_stops_ds h0 h1 h2 h3 h4 h5) ei (head_is_needs_colon h0' h1' h2' h3') = let s1 = brackets_one h2 (ap (λ z. named (next z)) ei) h2' in cc
head_one (head_is_stops_ds h0 h1 h2 h3 h4 h5) ei (head_is_needs_line_end h0' h1' h2' h3' h4') = let s1 = brackets_one h2 (ap (λ z. named (next z)) ei) h2' in cc
head_one (head_is_stops_ds h0 h1 h2 h3 h4 h5) ei (head_is_stops_ds h0' h1' h2' h3' h4' h5') = let s1 = brackets_one h2 (ap (λ z. named (next z)) ei) h2' in let s2 = members_one h5 (ap (λ z. next z) (same_rest s1)) h5' in cc
head_one (head_is_stops_ds h0 h1 h2 h3 h4 h5) ei (head_is h0' h1' h2' h3' h4' h5') = let s1 = brackets_one h2 (ap (λ z. named (next z)) ei) h2' in let s2 = members_one h5 (ap (λ z. next z) (same_rest s1)) h5' in cc
head_one (head_is h0 h1 h2 h3 h4 h5) ei (head_is_needs_class h0') = cc
head_one (head_is h0 h1 h2 h3 h4 h5) ei (head_is_needs_name h0' h1') = cc
head_one (head_is h0 h1 h2 h3 h4 h5) ei (head_is_stops_u h0' h1' h2') = let s1 = brackets_one h2 (ap (λ z. named (next z)) ei) h2' in cc
head_one (head_is h0 h1 h2 h3 h4 h5) ei (head_is_needs_colon h0' h1' h2' h3') = let s1 = brackets_one h2 (ap (λ z. named (next z)) ei) h2' in cc
head_one (head_is h0 h1 h2 h3 h4 h5) ei (head_is_needs_line_end h0' h1' h2' h3' h4') = let s1 = brackets_one h2 (ap (λ z. named (next z)) ei) h2' in cc
head_one (head_is h0 h1 h2 h3 h4 h5) ei (head_is_stops_ds h0' h1' h2' h3' h4' h5') = let s1 = brackets_one h2 (ap (λ z. named (next z)) ei) h2' in let s2 = members_one h5 (ap (λ z. next z) (same_rest s1)) h5' in cc
head_one (head_is h0 h1 h2 h3 h4 h5) ei (head_is h0' h1' h2' h3' h4' h5') = let s1 = brackets_one h2 (ap (λ z. named (next z)) ei) h2' in let s2 = members_one h5 (ap (λ z. next z) (same_rest s1)) h5' in cc

pub class_one : {i i' : Input} {o o' : Outcome PlainClass} → IsClass i o → i ≡ i' → IsClass i' o' → o ≡ o'
class_one (class_is_needs_at h0) ei (class_is_needs_at h0') = cc
class_one (class_is_needs_at h0) ei (class_is_stops_u h0' h1') = cc
class_one (class_is_needs_at h0) ei (class_is_needs_line h0' h1' h2') = cc
class_one (class_is_needs_at h0) ei (class_is h0' h1' h2' h3') = cc
class_one (class_is_stops_u h0 h1) ei (class_is_needs_at h0') = cc
class_one (class_is_stops_u h0 h1) ei (class_is_stops_u h0' h1') = let s1 = marker_one h1 refl (ap (λ z. next z) ei) h1' in cc
class_one (class_is_stops_u h0 h1) ei (class_is_needs_line h0' h1' h2') = let s1 = marker_one h1 refl (ap (λ z. next z) ei) h1' in cc
class_one (class_is_stops_u h0 h1) ei (class_is h0' h1' h2' h3') = let s1 = marker_one h1 refl (ap (λ z. next z) ei) h1' in cc
class_one (class_is_needs_line h0 h1 h2) ei (class_is_needs_at h0') = cc
class_one (class_is_needs_line h0 h1 h2) ei (class_is_stops_u h0' h1') = let s1 = marker_one h1 refl (ap (λ z. next z) ei) h1' in cc
class_one (class_is_needs_line h0 h1 h2) ei (class_is_needs_line h0' h1' h2') = let s1 = marker_one h1 refl (ap (λ z. next z) ei) h1' in cc
class_one (class_is_needs_line h0 h1 h2) ei (class_is h0' h1' h2' h3') = let s1 = marker_one h1 refl (ap (λ z. next z) ei) h1' in cc
class_one (class_is h0 h1 h2 h3) ei (class_is_needs_at h0') = cc
class_one (class_is h0 h1 h2 h3) ei (class_is_stops_u h0' h1') = let s1 = marker_one h1 refl (ap (λ z. next z) ei) h1' in cc
class_one (class_is h0 h1 h2 h3) ei (class_is_needs_line h0' h1' h2') = let s1 = marker_one h1 refl (ap (λ z. next z) ei) h1' in cc
class_one (class_is h0 h1 h2 h3) ei (class_is h0' h1' h2' h3') = let s1 = marker_one h1 refl (ap (λ z. next z) ei) h1' in let s2 = head_one h3 (ap (λ z. next_line z) (same_rest s1)) h3' in cc

pub more_names_one : {b b' : Bool} {i i' : Input} {o o' : Outcome Nothing} → IsMoreNames b i o → b ≡ b' → i ≡ i' → IsMoreNames b' i' o' → o ≡ o'
more_names_one (more_names_end h0) eb ei (more_names_end h0') = cc
more_names_one (more_names_end h0) eb ei (more_names_more h0' h1' h2') = cc
more_names_one (more_names_end h0) eb ei (more_names_last h0' h1' h2') = cc
more_names_one (more_names_end h0) eb ei (more_names_other h0' h1' h2') = cc
more_names_one (more_names_more h0 h1 h2) eb ei (more_names_end h0') = cc
more_names_one (more_names_more h0 h1 h2) eb ei (more_names_more h0' h1' h2') = let s1 = more_names_one h2 eb (ap (λ z. next (next z)) ei) h2' in cc
more_names_one (more_names_more h0 h1 h2) eb ei (more_names_last h0' h1' h2') = cc
more_names_one (more_names_more h0 h1 h2) eb ei (more_names_other h0' h1' h2') = cc
more_names_one (more_names_last h0 h1 h2) eb ei (more_names_end h0') = cc
more_names_one (more_names_last h0 h1 h2) eb ei (more_names_more h0' h1' h2') = cc
more_names_one (more_names_last h0 h1 h2) eb ei (more_names_last h0' h1' h2') = cc
more_names_one (more_names_last h0 h1 h2) eb ei (more_names_other h0' h1' h2') = cc
more_names_one (more_names_other h0 h1 h2) eb ei (more_names_end h0') = cc
more_names_one (more_names_other h0 h1 h2) eb ei (more_names_more h0' h1' h2') = cc
more_names_one (more_names_other h0 h1 h2) eb ei (more_names_last h0' h1' h2') = cc
more_names_one (more_names_other h0 h1 h2) eb ei (more_names_other h0' h1' h2') = cc

pub names_one : {b b' : Bool} {i i' : Input} {o o' : Outcome Nothing} → IsNames b i o → b ≡ b' → i ≡ i' → IsNames b' i' o' → o ≡ o'
names_one (names_is_needs_name h0) eb ei (names_is_needs_name h0') = cc
names_one (names_is_needs_name h0) eb ei (names_is h0' h1') = cc
names_one (names_is h0 h1) eb ei (names_is_needs_name h0') = cc
names_one (names_is h0 h1) eb ei (names_is h0' h1') = let s1 = more_names_one h1 eb (ap (λ z. next z) ei) h1' in cc

pub imported_one : {i i' : Input} {o o' : Outcome Nothing} → IsImported i o → i ≡ i' → IsImported i' o' → o ≡ o'
imported_one (imported_plain h0 h1) ei (imported_plain h0' h1') = let s1 = names_one h1 refl ei h1' in cc
imported_one (imported_plain h0 h1) ei (imported_enclosed_stops_u h0' h1') = cc
imported_one (imported_plain h0 h1) ei (imported_enclosed_needs_close h0' h1' h2') = cc
imported_one (imported_plain h0 h1) ei (imported_enclosed h0' h1' h2') = cc
imported_one (imported_enclosed_stops_u h0 h1) ei (imported_plain h0' h1') = cc
imported_one (imported_enclosed_stops_u h0 h1) ei (imported_enclosed_stops_u h0' h1') = let s1 = names_one h1 refl (ap (λ z. next z) ei) h1' in cc
imported_one (imported_enclosed_stops_u h0 h1) ei (imported_enclosed_needs_close h0' h1' h2') = let s1 = names_one h1 refl (ap (λ z. next z) ei) h1' in cc
imported_one (imported_enclosed_stops_u h0 h1) ei (imported_enclosed h0' h1' h2') = let s1 = names_one h1 refl (ap (λ z. next z) ei) h1' in cc
imported_one (imported_enclosed_needs_close h0 h1 h2) ei (imported_plain h0' h1') = cc
imported_one (imported_enclosed_needs_close h0 h1 h2) ei (imported_enclosed_stops_u h0' h1') = let s1 = names_one h1 refl (ap (λ z. next z) ei) h1' in cc
imported_one (imported_enclosed_needs_close h0 h1 h2) ei (imported_enclosed_needs_close h0' h1' h2') = let s1 = names_one h1 refl (ap (λ z. next z) ei) h1' in cc
imported_one (imported_enclosed_needs_close h0 h1 h2) ei (imported_enclosed h0' h1' h2') = let s1 = names_one h1 refl (ap (λ z. next z) ei) h1' in cc
imported_one (imported_enclosed h0 h1 h2) ei (imported_plain h0' h1') = cc
imported_one (imported_enclosed h0 h1 h2) ei (imported_enclosed_stops_u h0' h1') = let s1 = names_one h1 refl (ap (λ z. next z) ei) h1' in cc
imported_one (imported_enclosed h0 h1 h2) ei (imported_enclosed_needs_close h0' h1' h2') = let s1 = names_one h1 refl (ap (λ z. next z) ei) h1' in cc
imported_one (imported_enclosed h0 h1 h2) ei (imported_enclosed h0' h1' h2') = let s1 = names_one h1 refl (ap (λ z. next z) ei) h1' in cc

pub line_end_one : {i i' : Input} {o o' : Outcome Nothing} → IsLineEnd i o → i ≡ i' → IsLineEnd i' o' → o ≡ o'
line_end_one (line_end_is_needs_line_end h0) ei (line_end_is_needs_line_end h0') = cc
line_end_one (line_end_is_needs_line_end h0) ei (line_end_is h0') = cc
line_end_one (line_end_is h0) ei (line_end_is_needs_line_end h0') = cc
line_end_one (line_end_is h0) ei (line_end_is h0') = cc

pub import_from_one : {i i' : Input} {o o' : Outcome Nothing} → IsImportFrom i o → i ≡ i' → IsImportFrom i' o' → o ≡ o'
import_from_one (import_from_is_needs_module h0) ei (import_from_is_needs_module h0') = cc
import_from_one (import_from_is_needs_module h0) ei (import_from_is_needs_import h0' h1') = cc
import_from_one (import_from_is_needs_module h0) ei (import_from_is_stops_u h0' h1' h2') = cc
import_from_one (import_from_is_needs_module h0) ei (import_from_is h0' h1' h2' h3') = cc
import_from_one (import_from_is_needs_import h0 h1) ei (import_from_is_needs_module h0') = cc
import_from_one (import_from_is_needs_import h0 h1) ei (import_from_is_needs_import h0' h1') = cc
import_from_one (import_from_is_needs_import h0 h1) ei (import_from_is_stops_u h0' h1' h2') = cc
import_from_one (import_from_is_needs_import h0 h1) ei (import_from_is h0' h1' h2' h3') = cc
import_from_one (import_from_is_stops_u h0 h1 h2) ei (import_from_is_needs_module h0') = cc
import_from_one (import_from_is_stops_u h0 h1 h2) ei (import_from_is_needs_import h0' h1') = cc
import_from_one (import_from_is_stops_u h0 h1 h2) ei (import_from_is_stops_u h0' h1' h2') = let s1 = imported_one h2 (ap (λ z. next (next z)) ei) h2' in cc
import_from_one (import_from_is_stops_u h0 h1 h2) ei (import_from_is h0' h1' h2' h3') = let s1 = imported_one h2 (ap (λ z. next (next z)) ei) h2' in cc
import_from_one (import_from_is h0 h1 h2 h3) ei (import_from_is_needs_module h0') = cc
import_from_one (import_from_is h0 h1 h2 h3) ei (import_from_is_needs_import h0' h1') = cc
import_from_one (import_from_is h0 h1 h2 h3) ei (import_from_is_stops_u h0' h1' h2') = let s1 = imported_one h2 (ap (λ z. next (next z)) ei) h2' in cc
import_from_one (import_from_is h0 h1 h2 h3) ei (import_from_is h0' h1' h2' h3') = let s1 = imported_one h2 (ap (λ z. next (next z)) ei) h2' in let s2 = line_end_one h3 (same_rest s1) h3' in cc

pub import_one : {i i' : Input} {o o' : Outcome Nothing} → IsImport i o → i ≡ i' → IsImport i' o' → o ≡ o'
import_one (import_from h0 h1) ei (import_from h0' h1') = let s1 = import_from_one h1 (ap (λ z. next z) ei) h1' in cc
import_one (import_from h0 h1) ei (import_whole_needs_import h0' h1') = cc
import_one (import_from h0 h1) ei (import_whole_needs_stateflowword h0' h1' h2') = cc
import_one (import_from h0 h1) ei (import_whole h0' h1' h2' h3') = cc
import_one (import_whole_needs_import h0 h1) ei (import_from h0' h1') = cc
import_one (import_whole_needs_import h0 h1) ei (import_whole_needs_import h0' h1') = cc
import_one (import_whole_needs_import h0 h1) ei (import_whole_needs_stateflowword h0' h1' h2') = cc
import_one (import_whole_needs_import h0 h1) ei (import_whole h0' h1' h2' h3') = cc
import_one (import_whole_needs_stateflowword h0 h1 h2) ei (import_from h0' h1') = cc
import_one (import_whole_needs_stateflowword h0 h1 h2) ei (import_whole_needs_import h0' h1') = cc
import_one (import_whole_needs_stateflowword h0 h1 h2) ei (import_whole_needs_stateflowword h0' h1' h2') = cc
import_one (import_whole_needs_stateflowword h0 h1 h2) ei (import_whole h0' h1' h2' h3') = cc
import_one (import_whole h0 h1 h2 h3) ei (import_from h0' h1') = cc
import_one (import_whole h0 h1 h2 h3) ei (import_whole_needs_import h0' h1') = cc
import_one (import_whole h0 h1 h2 h3) ei (import_whole_needs_stateflowword h0' h1' h2') = cc
import_one (import_whole h0 h1 h2 h3) ei (import_whole h0' h1' h2' h3') = let s1 = line_end_one h3 (ap (λ z. next (next z)) ei) h3' in cc

pub items_one : {i i' : Input} {o o' : Outcome (List PlainClass)} → IsItems i o → i ≡ i' → IsItems i' o' → o ≡ o'
items_one (items_end h0) ei (items_end h0') = cc
items_one (items_end h0) ei (items_shifted h0' h1') = cc
items_one (items_end h0) ei (items_import_stops_u h0' h1' h2' h3') = cc
items_one (items_end h0) ei (items_import h0' h1' h2' h3' h4') = cc
items_one (items_end h0) ei (items_class_stops_d h0' h1' h2' h3') = cc
items_one (items_end h0) ei (items_class_stops_ds h0' h1' h2' h3' h4') = cc
items_one (items_end h0) ei (items_class h0' h1' h2' h3' h4') = cc
items_one (items_shifted h0 h1) ei (items_end h0') = cc
items_one (items_shifted h0 h1) ei (items_shifted h0' h1') = cc
items_one (items_shifted h0 h1) ei (items_import_stops_u h0' h1' h2' h3') = cc
items_one (items_shifted h0 h1) ei (items_import h0' h1' h2' h3' h4') = cc
items_one (items_shifted h0 h1) ei (items_class_stops_d h0' h1' h2' h3') = cc
items_one (items_shifted h0 h1) ei (items_class_stops_ds h0' h1' h2' h3' h4') = cc
items_one (items_shifted h0 h1) ei (items_class h0' h1' h2' h3' h4') = cc
items_one (items_import_stops_u h0 h1 h2 h3) ei (items_end h0') = cc
items_one (items_import_stops_u h0 h1 h2 h3) ei (items_shifted h0' h1') = cc
items_one (items_import_stops_u h0 h1 h2 h3) ei (items_import_stops_u h0' h1' h2' h3') = let s1 = import_one h3 (ap (λ z. next_line z) ei) h3' in cc
items_one (items_import_stops_u h0 h1 h2 h3) ei (items_import h0' h1' h2' h3' h4') = let s1 = import_one h3 (ap (λ z. next_line z) ei) h3' in cc
items_one (items_import_stops_u h0 h1 h2 h3) ei (items_class_stops_d h0' h1' h2' h3') = cc
items_one (items_import_stops_u h0 h1 h2 h3) ei (items_class_stops_ds h0' h1' h2' h3' h4') = cc
items_one (items_import_stops_u h0 h1 h2 h3) ei (items_class h0' h1' h2' h3' h4') = cc
items_one (items_import h0 h1 h2 h3 h4) ei (items_end h0') = cc
items_one (items_import h0 h1 h2 h3 h4) ei (items_shifted h0' h1') = cc
items_one (items_import h0 h1 h2 h3 h4) ei (items_import_stops_u h0' h1' h2' h3') = let s1 = import_one h3 (ap (λ z. next_line z) ei) h3' in cc
items_one (items_import h0 h1 h2 h3 h4) ei (items_import h0' h1' h2' h3' h4') = let s1 = import_one h3 (ap (λ z. next_line z) ei) h3' in let s2 = items_one h4 (same_rest s1) h4' in cc
items_one (items_import h0 h1 h2 h3 h4) ei (items_class_stops_d h0' h1' h2' h3') = cc
items_one (items_import h0 h1 h2 h3 h4) ei (items_class_stops_ds h0' h1' h2' h3' h4') = cc
items_one (items_import h0 h1 h2 h3 h4) ei (items_class h0' h1' h2' h3' h4') = cc
items_one (items_class_stops_d h0 h1 h2 h3) ei (items_end h0') = cc
items_one (items_class_stops_d h0 h1 h2 h3) ei (items_shifted h0' h1') = cc
items_one (items_class_stops_d h0 h1 h2 h3) ei (items_import_stops_u h0' h1' h2' h3') = cc
items_one (items_class_stops_d h0 h1 h2 h3) ei (items_import h0' h1' h2' h3' h4') = cc
items_one (items_class_stops_d h0 h1 h2 h3) ei (items_class_stops_d h0' h1' h2' h3') = let s1 = class_one h3 (ap (λ z. next_line z) ei) h3' in cc
items_one (items_class_stops_d h0 h1 h2 h3) ei (items_class_stops_ds h0' h1' h2' h3' h4') = let s1 = class_one h3 (ap (λ z. next_line z) ei) h3' in cc
items_one (items_class_stops_d h0 h1 h2 h3) ei (items_class h0' h1' h2' h3' h4') = let s1 = class_one h3 (ap (λ z. next_line z) ei) h3' in cc
items_one (items_class_stops_ds h0 h1 h2 h3 h4) ei (items_end h0') = cc
items_one (items_class_stops_ds h0 h1 h2 h3 h4) ei (items_shifted h0' h1') = cc
items_one (items_class_stops_ds h0 h1 h2 h3 h4) ei (items_import_stops_u h0' h1' h2' h3') = cc
items_one (items_class_stops_ds h0 h1 h2 h3 h4) ei (items_import h0' h1' h2' h3' h4') = cc
items_one (items_class_stops_ds h0 h1 h2 h3 h4) ei (items_class_stops_d h0' h1' h2' h3') = let s1 = class_one h3 (ap (λ z. next_line z) ei) h3' in cc
items_one (items_class_stops_ds h0 h1 h2 h3 h4) ei (items_class_stops_ds h0' h1' h2' h3' h4') = let s1 = class_one h3 (ap (λ z. next_line z) ei) h3' in let s2 = items_one h4 (same_rest s1) h4' in cc
items_one (items_class_stops_ds h0 h1 h2 h3 h4) ei (items_class h0' h1' h2' h3' h4') = let s1 = class_one h3 (ap (λ z. next_line z) ei) h3' in let s2 = items_one h4 (same_rest s1) h4' in cc
items_one (items_class h0 h1 h2 h3 h4) ei (items_end h0') = cc
items_one (items_class h0 h1 h2 h3 h4) ei (items_shifted h0' h1') = cc
items_one (items_class h0 h1 h2 h3 h4) ei (items_import_stops_u h0' h1' h2' h3') = cc
items_one (items_class h0 h1 h2 h3 h4) ei (items_import h0' h1' h2' h3' h4') = cc
items_one (items_class h0 h1 h2 h3 h4) ei (items_class_stops_d h0' h1' h2' h3') = let s1 = class_one h3 (ap (λ z. next_line z) ei) h3' in cc
items_one (items_class h0 h1 h2 h3 h4) ei (items_class_stops_ds h0' h1' h2' h3' h4') = let s1 = class_one h3 (ap (λ z. next_line z) ei) h3' in let s2 = items_one h4 (same_rest s1) h4' in cc
items_one (items_class h0 h1 h2 h3 h4) ei (items_class h0' h1' h2' h3' h4') = let s1 = class_one h3 (ap (λ z. next_line z) ei) h3' in let s2 = items_one h4 (same_rest s1) h4' in cc

pub file_one : {i i' : Input} {o o' : Outcome (List PlainClass)} → IsFile i o → i ≡ i' → IsFile i' o' → o ≡ o'
file_one (file_doc_needs_line_end h0 h1) ei (file_doc_needs_line_end h0' h1') = cc
file_one (file_doc_needs_line_end h0 h1) ei (file_doc h0' h1' h2') = cc
file_one (file_doc_needs_line_end h0 h1) ei (file_plain h0' h1') = cc
file_one (file_doc h0 h1 h2) ei (file_doc_needs_line_end h0' h1') = cc
file_one (file_doc h0 h1 h2) ei (file_doc h0' h1' h2') = let s1 = items_one h2 (ap (λ z. next (next_line z)) ei) h2' in cc
file_one (file_doc h0 h1 h2) ei (file_plain h0' h1') = cc
file_one (file_plain h0 h1) ei (file_doc_needs_line_end h0' h1') = cc
file_one (file_plain h0 h1) ei (file_doc h0' h1' h2') = cc
file_one (file_plain h0 h1) ei (file_plain h0' h1') = let s1 = items_one h1 ei h1' in cc

program_one : {lines lines' : List PlainLine} {o o' : Parse} → IsProgram lines o → lines ≡ lines' → IsProgram lines' o' → o ≡ o'
program_one (program_is h) e (program_is h') = let s = file_one h (ap first_input e) h' in let p = same_part s in let m = ap (λ i. i.names) (same_rest s) in cc
program_one (program_is h) e (program_stops h') = let s = file_one h (ap first_input e) h' in cc
program_one (program_stops h) e (program_is h') = let s = file_one h (ap first_input e) h' in cc
program_one (program_stops h) e (program_stops h') = let s = file_one h (ap first_input e) h' in cc

-- two outcomes of the same lines are the same
pub one_outcome : (lines : List PlainLine) (o p : Parse) → IsProgram lines o → IsProgram lines p → o ≡ p
one_outcome lines o p a b = program_one a refl b
