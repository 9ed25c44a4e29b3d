-- The first file of a name, and a fault that is counted there.
use Rattle.std.proofs.Common.{◌≡◌, ◌≢◌, cond, IsSome, ℕ, ◌+◌, ◌≤◌, ◌<◌, Bool, true, false, List, [], ◌∷◌, ◌++◌, ◌||◌, length, get_or, set, Some, None, refl, sym, ap, ◌∙◌, arith, bytes_eq, is_none, map, take}
use Rattle.std.proofs.lemmas.List.{map_more, length-map, length-take-le}
use Rattle.std.specs.declared.option.Option.{Option}
use Rattle.std.specs.List.{position}
use Rattle.sf_outside.specs.Causes.{next_count}
use Rattle.sf_outside.specs.Named.{FileState, content_of, faults_of, listed}
use Rattle.sf_outside.proofs.NamedValues.{first_at, none_named, value_named-first, value_named-set, value_named-related, value_named-others, value_named-missing, value_named-later, same_name, other_name}

-- what a fault at the place of a name changes
pub record FaultAt (others : ℕ) (old new : List FileState) (name : List ℕ) : Type 0 where
  pub kept : (q : List ℕ) → content_of new q ≡ content_of old q
  pub later : (q : List ℕ) → faults_of others old q ≤ faults_of others new q
  pub counted : faults_of others new name ≡ next_count (faults_of others old name)
  pub elsewhere : (q : List ℕ) → q ≢ name → faults_of others new q ≡ faults_of others old q

pub content_at : (files : List FileState) (name : List ℕ) (place : ℕ) (d : FileState) → Some place ≡ position (λ file. bytes_eq file.name name) files → d ≡ get_or files place d → content_of files name ≡ Some d.bytes
content_at files name place d found is =
    value_named-first (λ file. file.name) (λ file. Some file.bytes) None files name place d (first_at (λ file. file.name) files name place d found) ∙ ap (λ file. Some file.bytes) (sym is)

pub fault_at : (others : ℕ) (files : List FileState) (name : List ℕ) (place : ℕ) (d new : FileState) → Some place ≡ position (λ file. bytes_eq file.name name) files → d ≡ get_or files place d
    → new ≡ record d { faults = next_count d.faults } → d.faults ≤ new.faults → FaultAt others files (set files place new) name
fault_at others files name place d new found is counted later =
    let first = first_at (λ (file : FileState). file.name) files name place d found in
    let named : new.name ≡ (get_or files place d).name = ap (λ file. file.name) counted ∙ ap (λ file. file.name) is in
    let bytes : Some new.bytes ≡ Some (get_or files place d).bytes = ap (λ file. Some file.bytes) counted ∙ ap (λ file. Some file.bytes) is in
    let rose : (get_or files place d).faults ≤ new.faults = omega (arith, later, ap (λ file. file.faults) is) in
    record {
      kept = λ q. value_named-related (λ file. file.name) (λ file. Some file.bytes) None (λ a b. b ≡ a) (λ v. refl) files place d new q first.within named bytes;
      later = λ q. value_named-related (λ file. file.name) (λ file. file.faults) others (λ a b. a ≤ b) (λ v. omega arith) files place d new q first.within named rose;
      counted = value_named-set (λ file. file.name) (λ file. file.faults) others files name place d new first named ∙ ap (λ file. file.faults) counted
          ∙ ap (λ file. next_count file.faults) is ∙ ap next_count (sym (value_named-first (λ file. file.name) (λ file. file.faults) others files name place d first));
      elsewhere = λ q differs. value_named-others (λ file. file.name) (λ file. file.faults) others files place d new q first.within named
          (other_name (get_or files place d).name q (λ same. differs (sym same ∙ same_name (get_or files place d).name name first.here)));
    }

-- no file has this name
pub record Missing (files : List FileState) (name : List ℕ) : Type 0 where
  pub content : content_of files name ≡ None
  pub faults : (others : ℕ) → faults_of others files name ≡ others

pub missing_at : (files : List FileState) (name : List ℕ) → None ≡ position (λ file. bytes_eq file.name name) files → Missing files name
missing_at files name none = record {
  content = value_named-missing (λ file. file.name) (λ file. Some file.bytes) None files name (none_named (λ file. file.name) files name none);
  faults = λ others. value_named-missing (λ file. file.name) (λ file. file.faults) others files name (none_named (λ file. file.name) files name none);
}

-- the count of all other names rose
pub others_later : (files : List FileState) (before now : ℕ) (q : List ℕ) → before ≤ now → faults_of before files q ≤ faults_of now files q
others_later files before now q later = value_named-later (λ file. file.name) (λ file. file.faults) before now files q later

-- a name that a file has doesn't depend on the count of the others
held_cond : (b : Bool) (x before now : ℕ) (here there : Option (List ℕ)) → (IsSome there → now ≡ before) → IsSome (cond b here there) → cond b x now ≡ cond b x before
held_cond true x before now here there rest held = refl
held_cond false x before now here there rest held = rest held

pub faults_held : (files : List FileState) (q : List ℕ) (before now : ℕ) → IsSome (content_of files q) → faults_of now files q ≡ faults_of before files q
faults_held [] q before now held = cc
faults_held (file ∷ files) q before now held = held_cond (bytes_eq file.name q) file.faults _ _ (Some file.bytes) (content_of files q) (faults_held files q before now) held

-- a read fails where no file has the name
pub fails_missing : (due : Bool) (content : Option (List ℕ)) → content ≡ None → true ≡ due || is_none content
fails_missing true content missing = refl
fails_missing false content missing = rw missing refl

-- a read of a file that is there fails only where its call is to fail
pub fails_held : (due : Bool) (content : Option (List ℕ)) (bytes : List ℕ) → due ≡ false → content ≡ Some bytes → false ≡ due || is_none content
fails_held due content bytes passed held = rw (passed, held) refl

-- one name and its bytes more
pub listed-more : (names contents : List (List ℕ)) (name bytes : List ℕ) → length names ≡ length contents
    → listed (names ++ name ∷ []) (contents ++ bytes ∷ []) ≡ listed names contents ++ record { name = name; bytes = bytes; faults = 0 } ∷ []
listed-more [] [] name bytes same = refl
listed-more [] (other ∷ contents) name bytes same = absurd (omega (arith, same))
listed-more (first ∷ names) [] name bytes same = absurd (omega (arith, same))
listed-more (first ∷ names) (other ∷ contents) name bytes same =
    ap (λ files. record { name = first; bytes = other; faults = 0 } ∷ files) (listed-more names contents name bytes (omega (arith, same)))

-- in a loop over names, each with the bytes at its place: one file more
pub listed-next : {X Y : Type 0} (name : X → List ℕ) (bytes : Y → List ℕ) (xs : List X) (ys : List Y) (i : ℕ) (x : X) (y : Y) (files : List FileState) (made : FileState)
    → i < length xs → length xs ≡ length ys → files ≡ listed (map name (take i xs)) (map bytes (take i ys)) → made ≡ record { name = name (get_or xs i x); bytes = bytes (get_or ys i y); faults = 0 }
    → files ++ made ∷ [] ≡ listed (map name (take (i + 1) xs)) (map bytes (take (i + 1) ys))
listed-next name bytes xs ys i x y files made within same first is =
    let there : i < length ys = omega arith in
    let even : length (map name (take i xs)) ≡ length (map bytes (take i ys)) =
    length-map (take i xs) name ∙ length-take-le i xs (omega arith) ∙ sym (length-take-le i ys (omega arith)) ∙ sym (length-map (take i ys) bytes) in
    ap (λ l. l ++ made ∷ []) first ∙ ap (λ file. listed (map name (take i xs)) (map bytes (take i ys)) ++ file ∷ []) is
    ∙ sym (listed-more (map name (take i xs)) (map bytes (take i ys)) (name (get_or xs i x)) (bytes (get_or ys i y)) even)
    ∙ ap (λ l. listed l (map bytes (take i ys) ++ bytes (get_or ys i y) ∷ [])) (sym (map_more name xs i x within))
    ∙ ap (λ l. listed (map name (take (i + 1) xs)) l) (sym (map_more bytes ys i y there))
