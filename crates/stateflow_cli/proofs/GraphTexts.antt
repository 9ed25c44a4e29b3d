-- The text of a program's graph is in UTF-8.
use Rattle.std.proofs.Common.{◌≡◌, ◌<◌, ◌/◌, ◌%◌, ◌+◌, ℕ, zero, suc, Bool, true, false, cond, List, [], ◌∷◌, ◌++◌, length, Some, None, refl, sym, subst, arith}
use Rattle.std.specs.Prelude.{IfSome, IsUtf8, IsAscii, codes, decimal, slice_get, slice_index_or, option_map, option_and_then, ◌==◌, encode_utf8_all, chars, nat_lt, ◌&&◌}
use Rattle.std.specs.declared.option.Option.{Option}
use Rattle.std.specs.List.{All, list_all, concat, filter_map, find}
use Rattle.std.specs.List.{cons_option}
use Rattle.std.specs.Fmt.{digits, digits_onto, digit_glyph}
use Rattle.std.proofs.lemmas.Bool.Decides.{nat_tests}
use Rattle.std.proofs.lemmas.List.Elements.{All-nil, All-cons, All-head, All-tail, All-map, All-filter, All-weaker}
use Rattle.std.proofs.lemmas.Option.{IfSome_then, slice_get_within, get_or_from_slice_get}
use Rattle.std.proofs.lemmas.Str.{IsUtf8-nil, IsUtf8-append, IsUtf8-from_ascii, encodes-chars}
use Rattle.std.proofs.lemmas.Str.Ascii.{IsAscii-nil, IsAscii-cons}
use Rattle.py_tree.specs.PlainStatements.{PlainStmt}
use Rattle.py_tree.specs.PlainProgram.{PlainMethod, PlainClass, PlainProgram}
use Rattle.py_tree.specs.ClassRules.{PlainField, PlainSig, PlainTable, Declaration, declaration, field_declared, fields_of, init_of, body_of, is_init, is_called, methods_of, sig_of, table_of, tables_of}
use Rattle.block_code.specs.Places.{first_place}
use Rattle.block_code.specs.PlainBlocks.{PlainEnd, EJump, EBranch, ELeave, ECall, EMake, PlainBlock}
use Rattle.block_code.specs.GraphText.{text_if_there, class_text, method_text, key_text, end_text, block_line, block_lines, method_line, method_lines, class_line, lines_of_class, class_lines, graph_text}
use Rattle.stateflow_cli.proofs.WordNames.{HasText, DeclaresText, EachDeclares, MethodText, ClassText, EachClass}

-- ---- what has a text, in the tables of a program

abbrev FieldText : List (List ℕ) → PlainField → Type 0
FieldText names f = HasText names f.name

abbrev SigText : List (List ℕ) → PlainSig → Type 0
SigText names m = HasText names m.name

record TableText (names : List (List ℕ)) (t : PlainTable) : Type 0 where
  name : HasText names t.name
  fields : All (FieldText names) t.fields
  methods : All (SigText names) t.methods

each_declared : (names : List (List ℕ)) (body : List PlainStmt) → EachDeclares names body → All (FieldText names) (filter_map (λ s. option_map field_declared (declaration s)) body)
each_declared names [] h = All-nil (FieldText names)
each_declared names (s ∷ body) h = by (declaration s) (All-head (DeclaresText names) s body h) (each_declared names body (All-tail (DeclaresText names) s body h)) where
  by : (d : Option Declaration) → IfSome d (λ e. HasText names e.field.name.0) → All (FieldText names) (filter_map (λ x. option_map field_declared (declaration x)) body) → All (FieldText names) (cons_option (option_map field_declared d) (filter_map (λ x. option_map field_declared (declaration x)) body))
  by None t rest = rest
  by (Some d) t rest = All-cons (FieldText names) _ _ t rest

found_body : (names : List (List ℕ)) (members : List PlainMethod) → All (MethodText names) members → EachDeclares names (body_of (find (λ m. is_init names m.name) members))
found_body names [] h = All-nil (DeclaresText names)
found_body names (m ∷ ms) h = by (is_init names m.name) (found_body names ms (All-tail (MethodText names) m ms h)) where
  by : (b : Bool) → EachDeclares names (body_of (find (λ d. is_init names d.name) ms)) → EachDeclares names (body_of (cond b (Some m) (find (λ d. is_init names d.name) ms)))
  by true later = (All-head (MethodText names) m ms h).body
  by false later = later

named_members : (names : List (List ℕ)) (ms : List PlainMethod) → All (MethodText names) ms → All (λ (m : PlainMethod). HasText names m.name) ms
named_members names ms h = All-weaker (MethodText names) (λ (m : PlainMethod). HasText names m.name) (λ m t. t.name) ms h

table_text : (names : List (List ℕ)) (c : PlainClass) → ClassText names c → TableText names (table_of names c)
unfolding table_of fields_of init_of methods_of
table_text names c t = record {
  name = t.name;
  fields = each_declared names (body_of (init_of names c.members)) (found_body names c.members t.members);
  methods = All-map (SigText names) sig_of (methods_of names c.members) (All-filter (λ m. is_called names m.name) (λ (m : PlainMethod). HasText names m.name) c.members (named_members names c.members t.members));
}

tables_text : (names : List (List ℕ)) (cs : PlainProgram) → EachClass names cs → All (TableText names) (tables_of names cs)
tables_text names [] h = All-nil (TableText names)
tables_text names (c ∷ cs) h = All-cons (TableText names) (table_of names c) (tables_of names cs) (table_text names c (All-head (ClassText names) c cs h)) (tables_text names cs (All-tail (ClassText names) c cs h))

-- ---- words, numbers and pieces

low_ascii : (bs : List ℕ) → list_all (λ b. nat_lt b 128) bs ≡ true → IsAscii bs
low_ascii [] h = IsAscii-nil
low_ascii (b ∷ bs) h = by (nat_lt b 128) refl h (low_ascii bs) where
  by : (r : Bool) → nat_lt b 128 ≡ r → (r && list_all (λ c. nat_lt c 128) bs) ≡ true → (list_all (λ c. nat_lt c 128) bs ≡ true → IsAscii bs) → IsAscii (b ∷ bs)
  by true e h more = IsAscii-cons b bs (grind (arith, nat_tests)) (more h)
  by false e h more = absurd cc

low_utf8 : (bs : List ℕ) → list_all (λ b. nat_lt b 128) bs ≡ true → IsUtf8 bs
low_utf8 bs h = IsUtf8-from_ascii bs (low_ascii bs h)

glyph_ascii : (d : ℕ) → d < 10 → digit_glyph false d < 128
glyph_ascii d small = grind (arith, nat_tests)

digits_ascii : (k n : ℕ) (behind : List ℕ) → IsAscii behind → IsAscii (digits_onto k 10 false n behind)
digits_ascii zero n behind h = h
digits_ascii (suc k) n behind h =
    let here : IsAscii (digit_glyph false (n % 10) ∷ behind) = IsAscii-cons (digit_glyph false (n % 10)) behind (glyph_ascii (n % 10) (omega arith)) h in
    by (n / 10 == 0) here (digits_ascii k (n / 10) (digit_glyph false (n % 10) ∷ behind) here)
  where
    by : (b : Bool) → IsAscii (digit_glyph false (n % 10) ∷ behind) → IsAscii (digits_onto k 10 false (n / 10) (digit_glyph false (n % 10) ∷ behind))
        → IsAscii (cond b (digit_glyph false (n % 10) ∷ behind) (digits_onto k 10 false (n / 10) (digit_glyph false (n % 10) ∷ behind)))
    by true last more = last
    by false last more = more

decimal_utf8 : (n : ℕ) → IsUtf8 (decimal n)
unfolding digits
decimal_utf8 n = IsUtf8-from_ascii (decimal n) (digits_ascii 64 n [] IsAscii-nil)

-- pieces that are all in UTF-8
data EachUtf8 : List (List ℕ) → Type 0 where
  none : EachUtf8 []
  before : {piece : List ℕ} {pieces : List (List ℕ)} → IsUtf8 piece → EachUtf8 pieces → EachUtf8 (piece ∷ pieces)

concat_utf8 : {pieces : List (List ℕ)} → EachUtf8 pieces → IsUtf8 (concat pieces)
concat_utf8 none = IsUtf8-nil
concat_utf8 (before {piece = piece} {pieces = pieces} h more) = IsUtf8-append piece (concat pieces) h (concat_utf8 more)

-- ---- the lines

named_utf8 : (names : List (List ℕ)) (o : Option ℕ) → IfSome o (HasText names) → IsUtf8 (text_if_there names o)
named_utf8 names None h = IsUtf8-nil
named_utf8 names (Some name) h = h.utf8

-- what is there has what each has
there : {X : Type 0} (P : X → Type 0) (xs : List X) (k : ℕ) → All P xs → (o : Option X) → slice_get xs k ≡ o → IfSome o P
there P xs k each None e = tt
there P xs k each (Some x) e = subst P (get_or_from_slice_get xs k x x e) (each k x (slice_get_within xs k x e))

mapped : {X Y : Type 0} (f : X → Y) (P : Y → Type 0) (o : Option X) → IfSome o (λ x. P (f x)) → IfSome (option_map f o) P
mapped f P None h = tt
mapped f P (Some x) h = h

module _ (names : List (List ℕ)) (tables : List PlainTable) (each : All (TableText names) tables) where
  class_utf8 : (class : ℕ) → IsUtf8 (class_text names tables class)
  class_utf8 class = named_utf8 names _ (mapped (λ (t : PlainTable). t.name) (HasText names) (slice_get tables class) (IfSome_then (slice_get tables class) (there (TableText names) tables class each (slice_get tables class) refl) (λ t h. h.name)))

  sig_there : (method : ℕ) (o : Option PlainTable) → IfSome o (TableText names) → IfSome (option_and_then (λ (t : PlainTable). slice_get t.methods method) o) (SigText names)
  sig_there method None h = tt
  sig_there method (Some t) h = there (SigText names) t.methods method h.methods (slice_get t.methods method) refl

  method_utf8 : (class method : ℕ) → IsUtf8 (method_text names tables class method)
  method_utf8 class method = named_utf8 names _ (mapped (λ (m : PlainSig). m.name) (HasText names) (option_and_then (λ (t : PlainTable). slice_get t.methods method) (slice_get tables class)) (sig_there method (slice_get tables class) (there (TableText names) tables class each (slice_get tables class) refl)))

  end_utf8 : (e : PlainEnd) → IsUtf8 (end_text names tables e)
  end_utf8 (EJump to) = concat_utf8 (before (low_utf8 (codes "jump ") refl) (before (decimal_utf8 to) none))
  end_utf8 (EBranch test holds fails) = concat_utf8 (before (low_utf8 (codes "branch ") refl) (before (decimal_utf8 holds) (before (low_utf8 (codes " ") refl) (before (decimal_utf8 fails) none))))
  end_utf8 ELeave = concat_utf8 (before (low_utf8 (codes "leave") refl) none)
  end_utf8 (ECall on class method args into after) = concat_utf8 (before (low_utf8 (codes "call ") refl) (before (class_utf8 class) (before (low_utf8 (codes ".") refl) (before (method_utf8 class method) (before (low_utf8 (codes " then ") refl) (before (decimal_utf8 after) none))))))
  end_utf8 (EMake class args into after) = concat_utf8 (before (low_utf8 (codes "make ") refl) (before (class_utf8 class) (before (low_utf8 (codes " then ") refl) (before (decimal_utf8 after) none))))

  block_utf8 : (number : ℕ) (b : PlainBlock) → IsUtf8 (block_line names tables number b)
  block_utf8 number b =
      IsUtf8-append (concat (codes "  block " ∷ decimal number ∷ codes ": " ∷ decimal (length b.params) ∷ codes " vars, " ∷ [])) (end_text names tables b.end ++ concat (codes "\n" ∷ []))
      (concat_utf8 (before (low_utf8 (codes "  block ") refl) (before (decimal_utf8 number) (before (low_utf8 (codes ": ") refl) (before (decimal_utf8 (length b.params)) (before (low_utf8 (codes " vars, ") refl) none))))))
      (IsUtf8-append (end_text names tables b.end) (concat (codes "\n" ∷ [])) (end_utf8 b.end) (concat_utf8 (before (low_utf8 (codes "\n") refl) none)))

  blocks_utf8 : (number : ℕ) (bs : List PlainBlock) → IsUtf8 (block_lines names tables number bs)
  unfolding block_lines
  blocks_utf8 number [] = IsUtf8-nil
  blocks_utf8 number (b ∷ bs) = IsUtf8-append (block_line names tables number b) (block_lines names tables (number + 1) bs) (block_utf8 number b) (blocks_utf8 (number + 1) bs)

  method_line_utf8 : (class : ℕ) (m : PlainSig) (blocks : List PlainBlock) → HasText names class → SigText names m → IsUtf8 (method_line names class m blocks)
  method_line_utf8 class m blocks c s =
      concat_utf8 (before (low_utf8 (codes "method ") refl) (before c.utf8 (before (low_utf8 (codes ".") refl) (before s.utf8 (before (low_utf8 (codes ": ") refl) (before (decimal_utf8 (length blocks)) (before (low_utf8 (codes " blocks\n") refl) none)))))))

  module _ (graph : List (List PlainBlock)) where
    methods_utf8 : (class place : ℕ) (ms : List PlainSig) → HasText names class → All (SigText names) ms → IsUtf8 (method_lines names tables graph class place ms)
    unfolding method_lines
    methods_utf8 class place [] c h = IsUtf8-nil
    methods_utf8 class place (m ∷ ms) c h =
        let blocks = slice_index_or graph place [] in
        IsUtf8-append (method_line names class m blocks ++ block_lines names tables 0 blocks) (method_lines names tables graph class (place + 1) ms)
        (IsUtf8-append (method_line names class m blocks) (block_lines names tables 0 blocks) (method_line_utf8 class m blocks c (All-head (SigText names) m ms h)) (blocks_utf8 0 blocks))
        (methods_utf8 class (place + 1) ms c (All-tail (SigText names) m ms h))

    class_line_utf8 : (t : PlainTable) → TableText names t → IsUtf8 (class_line names t)
    class_line_utf8 t h =
        let key : IsUtf8 (key_text names t) = named_utf8 names _ (mapped (λ (f : PlainField). f.name) (HasText names) (slice_get t.fields t.key_field) (there (FieldText names) t.fields t.key_field h.fields (slice_get t.fields t.key_field) refl)) in
        concat_utf8 (before (low_utf8 (codes "class ") refl) (before h.name.utf8 (before (low_utf8 (codes ": key ") refl) (before key (before (low_utf8 (codes "; ") refl) (before (decimal_utf8 (length t.fields)) (before (low_utf8 (codes " fields; ") refl) (before (decimal_utf8 (length t.methods)) (before (low_utf8 (codes " methods\n") refl) none)))))))))

    classes_utf8 : (class : ℕ) (ts : List PlainTable) → All (TableText names) ts → IsUtf8 (class_lines names tables graph class ts)
    unfolding class_lines
    classes_utf8 class [] h = IsUtf8-nil
    classes_utf8 class (t ∷ ts) h =
        let own = All-head (TableText names) t ts h in
        IsUtf8-append (lines_of_class names tables graph class t) (class_lines names tables graph (class + 1) ts)
        (IsUtf8-append (class_line names t) (method_lines names tables graph t.name (first_place tables class) t.methods) (class_line_utf8 t own) (methods_utf8 t.name (first_place tables class) t.methods own.name own.methods))
        (classes_utf8 (class + 1) ts (All-tail (TableText names) t ts h))

graph_utf8 : (names : List (List ℕ)) (program : PlainProgram) (graph : List (List PlainBlock)) → EachClass names program → IsUtf8 (graph_text names (tables_of names program) graph)
graph_utf8 names program graph h = let each = tables_text names program h in classes_utf8 names (tables_of names program) each graph 0 (tables_of names program) each

-- so its bytes are those of its characters
pub same_bytes : (names : List (List ℕ)) (program : PlainProgram) (tables : _) (graph : List (List PlainBlock)) → EachClass names program → tables ≡ tables_of names program
    → encode_utf8_all (chars (graph_text names tables graph)) ≡ graph_text names tables graph
same_bytes names program tables graph h e = encodes-chars (graph_text names tables graph) (subst (λ ts. IsUtf8 (graph_text names ts graph)) (sym e) (graph_utf8 names program graph h))
