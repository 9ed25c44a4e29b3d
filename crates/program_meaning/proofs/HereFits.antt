-- Nothing goes wrong on one record: it is the record of an entity in a state that holds this entity alone.
use Rattle.std.proofs.Common.{◌≡◌, Bool, true, false, List, Some, refl, ap}
use Rattle.std.specs.FinMap as map
use Rattle.std.specs.FinSet as set
use Rattle.py_tree.specs.PlainStatements.{PlainStmts}
use Rattle.py_tree.specs.ClassRules.{PlainTable, tables_of}
use Rattle.py_tree.specs.Flow.{Context, Way}
use Rattle.sf_value.specs.Keys.{Key}
use Rattle.sf_value.specs.declared.value.Value.{Value}
use Rattle.program_meaning.specs.World.{State, World, Gives, Ends, reading}
use Rattle.program_meaning.specs.Calls.{Held, calls_at}
use Rattle.program_meaning.specs.Serial.{no_state}
use Rattle.program_meaning.specs.Fits.{RecordFits, StateFits}
use Rattle.program_meaning.specs.PointFits as point
use Rattle.program_meaning.specs.PointFits.{GivesFit, Since, EndsFit}
use Rattle.program_meaning.specs.HereInState as alike
use Rattle.program_meaning.specs.HereInState.{left_by, IsSeen, GivesAlike, EndsAlike}
use Rattle.program_meaning.specs.HereFits.{HeldFits, ExpressionsHereFit, StatementsHereFit}
use Rattle.program_meaning.proofs.CallsFit.{insert_fits, calls_keep}
use Rattle.program_meaning.proofs.HereInState.{written_there, written_read, added_twice, expressions_alike, statements_alike}
use Rattle.program_meaning.proofs.Soundness.{first_fits, expressions_fit, statements_fit}

-- the world where the entity alone is, and was read
abbrev with_record : Key → List Value → World
with_record me fields = reading (record { state = map.insert no_state me fields; reads = set.empty; writes = set.empty }) me

abbrev seen_in : Key → Held → World
seen_in me h = left_by me (with_record me h.fields) h

record_there : (me : Key) (h : Held) (wrote : Bool) → map.get (left_by me (with_record me h.fields) (record { fields = h.fields; wrote = wrote })).state me ≡ Some h.fields
record_there me h true = written_there (with_record me h.fields) me h.fields
record_there me h false = written_there (record { state = no_state; reads = set.empty; writes = set.empty }) me h.fields

read_once : (me : Key) (fields : List Value) → reading (with_record me fields) me ≡ with_record me fields
read_once me fields = ap (λ keys. record { state = map.insert no_state me fields; reads = keys; writes = set.empty }) (added_twice set.empty me)

was_read : (me : Key) (h : Held) (wrote : Bool) → reading (left_by me (with_record me h.fields) (record { fields = h.fields; wrote = wrote })) me ≡ left_by me (with_record me h.fields) (record { fields = h.fields; wrote = wrote })
was_read me h true = written_read (with_record me h.fields) me h.fields (read_once me h.fields)
was_read me h false = read_once me h.fields

is_seen : (me : Key) (h : Held) → IsSeen me (with_record me h.fields) (seen_in me h) h
is_seen me h = record { left = refl; there = record_there me h h.wrote; read = was_read me h h.wrote }

module _ (tables : List PlainTable) (me : Key) where
  state_fits : (h : Held) (wrote : Bool) → StateFits tables no_state → RecordFits tables me.0 h.fields → StateFits tables (left_by me (with_record me h.fields) (record { fields = h.fields; wrote = wrote })).state
  state_fits h true first fit = insert_fits tables (map.insert no_state me h.fields) me h.fields (insert_fits tables no_state me h.fields first fit) fit
  state_fits h false first fit = insert_fits tables no_state me h.fields first fit

  since_seen : (h : Held) → StateFits tables no_state → RecordFits tables me.0 h.fields → Since tables (seen_in me h).state (seen_in me h)
  since_seen h first fit = record { fits = state_fits h h.wrote first fit; kept = λ q a e. (a, e) }

  -- the record of a world that fits does
  held_fits : (s : State) (start w : World) (h : Held) → IsSeen me start w h → Since tables s w → HeldFits tables me.0 h
  held_fits s start w h seen since = since.fits.each me h.fields seen.there

  gives_here : {A : Type 0} (s : State) (start : World) (P : A → Type 0) (g : Gives World A) (h : Gives Held A) → GivesAlike me start g h → GivesFit (Since tables s) P g → GivesFit (HeldFits tables me.0) P h
  gives_here s start P _ _ (alike.got {w = w} {h = h} seen) (point.got p since) = point.got p (held_fits s start w h seen since)
  gives_here s start P _ _ (alike.fell {w = w} {h = h} seen) (point.fell p since) = point.fell p (held_fits s start w h seen since)

  ends_here : (s : State) (start : World) (c : Context) (xs : PlainStmts) (before after : Way) (e : Ends World) (h : Ends Held) → EndsAlike me start e h → EndsFit tables (Since tables s) c xs before after e → EndsFit tables (HeldFits tables me.0) c xs before after h
  ends_here s start c xs before after _ _ (alike.goes {w = w} {h = h} seen) (point.goes on fit since) = point.goes on fit (held_fits s start w h seen since)
  ends_here s start c xs before after _ _ (alike.returns {w = w} {h = h} seen) (point.returns fit since) = point.returns fit (held_fits s start w h seen since)
  ends_here s start c xs before after _ _ (alike.breaks {w = w} {h = h} seen) (point.leaves known inside there is fit since) = point.leaves known inside there is fit (held_fits s start w h seen since)
  ends_here s start c xs before after _ _ (alike.continues {w = w} {h = h} seen) (point.turns inside since) = point.turns inside (held_fits s start w h seen since)
  ends_here s start c xs before after _ _ (alike.fails {w = w} {h = h} seen) (point.fails p fit since) = point.fails p fit (held_fits s start w h seen since)

pub expressions_here_fit : ExpressionsHereFit
expressions_here_fit names program accepted me leaves keeps d method locals wanted e ty vars h n quiet typed fit held =
    let w : World = seen_in me h in
    let since : Since (tables_of names program) w.state w = since_seen (tables_of names program) me h (first_fits names program) held in
    gives_here (tables_of names program) me w.state (with_record me h.fields) _ _ _ (expressions_alike (record { program = program; names = names }) me leaves keeps d (with_record me h.fields) w h (is_seen me h) e quiet vars n)
    (expressions_fit names program accepted w.state (calls_at (record { program = program; names = names }) d) (calls_keep names program accepted d w.state) me h.fields (record_there me h h.wrote) method locals wanted e ty vars w n typed fit since)

pub statements_here_fit : StatementsHereFit
statements_here_fit names program accepted me leaves keeps d method in_loop xs before after vars h n quiet flows raises one fit held =
    let w : World = seen_in me h in
    let since : Since (tables_of names program) w.state w = since_seen (tables_of names program) me h (first_fits names program) held in
    ends_here (tables_of names program) me w.state (with_record me h.fields) _ xs before after _ _ (statements_alike (record { program = program; names = names }) me leaves keeps d (with_record me h.fields) w h (is_seen me h) xs quiet vars n)
    (statements_fit names program accepted w.state (calls_at (record { program = program; names = names }) d) (calls_keep names program accepted d w.state) me h.fields (record_there me h h.wrote) method in_loop xs before after vars w n flows raises one fit since)
