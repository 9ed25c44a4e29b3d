-- How a line is judged behind others.
use Rattle.std.proofs.Common.{◌≡◌, ℕ, suc, ◌+◌, ◌*◌, Bool, true, false, List, [], ◌∷◌, ◌++◌, length, Some, None, refl, sym, ap, ◌∙◌, arith, if◌then◌else◌, length-append}
use Rattle.std.specs.Prelude.{bytes_eq}
use Rattle.sf_value.specs.declared.Request.{Request}
use Rattle.program_meaning.specs.ClassTables.{Source}
use Rattle.program_meaning.specs.World.{State}
use Rattle.program_meaning.specs.RequestRun.{run}
use Rattle.program_meaning.specs.Serial.{serial_outcomes}
use Rattle.request_json.specs.Actions.{Line, content_of}
use Rattle.run_audit.specs.declared.verdict.Verdict.TheVariants as verdict
use Rattle.run_audit.specs.Verdict.{asked_by, is_reply, Reading, bad_line, behind_entry, Extent, read_last, read_pair, read_lines, reply_text, differing, acts_in, or_bad}
use Rattle.run_audit.specs.Judging.{Judged, read_reply, told_of, Passes, Decides}

module _ (src : Source) (extent : Extent) (ids : List (List ℕ)) where
  -- an odd line that asks nothing is bad
  odd_bad : (odd : Line) (more : List Line) → asked_by src ids odd ≡ None → read_lines src extent ids (odd ∷ more) ≡ bad_line (2 * length ids + 1)
  unfolding read_lines
  odd_bad odd [] none = ap (read_last extent (length ids)) none
  odd_bad odd (even ∷ more) none = ap (λ o. read_pair (length ids) o even (λ r. read_lines src extent (ids ++ r.id ∷ []) more)) none

  -- and behind one that asks something its reply is read
  odd_asks : (r : Request) (odd : Line) (more : List Line) → asked_by src ids odd ≡ Some r → read_lines src extent ids (odd ∷ more) ≡ read_reply src extent ids r more
  unfolding read_lines
  odd_asks r odd [] some = ap (read_last extent (length ids)) some
  odd_asks r odd (even ∷ more) some = ap (λ o. read_pair (length ids) o even (λ r. read_lines src extent (ids ++ r.id ∷ []) more)) some

-- what is told where a bad line comes first
pub told_bad : (src : Source) (n : ℕ) (s : State) (number : ℕ) → told_of src n s (bad_line number) ≡ Some (verdict.BadRun number)
unfolding differing
told_bad src n s number = refl

module _ (src : Source) (ids : List (List ℕ)) (s : State) where
  abbrev open_at : Judged
  open_at = record { ids = ids; state = s; asked = None }

  abbrev asked_at : Request → Judged
  asked_at r = record { ids = ids; state = s; asked = Some r }

  pub Decides-odd : (odd : Line) → asked_by src ids odd ≡ None → Decides src open_at odd (verdict.BadRun (2 * length ids + 1))
  Decides-odd odd none = λ extent more. ap (told_of src (length ids) s) (odd_bad src extent ids odd more none) ∙ told_bad src (length ids) s (2 * length ids + 1)

  pub Passes-odd : (r : Request) (odd : Line) → asked_by src ids odd ≡ Some r → Passes src open_at (asked_at r) odd
  Passes-odd r odd some = record {
    told = λ extent more. ap (told_of src (length ids) s) (odd_asks src extent ids r odd more some);
    count = λ extent more. ap (λ reading. length ids + length reading.entries) (odd_asks src extent ids r odd more some);
    turns = refl;
  }

  module _ (r : Request) where
    abbrev wanted : List ℕ
    wanted = reply_text r.id (run src s r.act).outcome (suc (length ids))

    abbrev behind : Judged
    behind = record { ids = ids ++ r.id ∷ []; state = (run src s r.act).state; asked = None }

    even_read : (extent : Extent) (even : Line) (more : List Line) (b : Bool) → is_reply even ≡ b
        → read_reply src extent ids r (even ∷ more)
        ≡ (if b then behind_entry (record { asked = r; said = content_of even }) (read_lines src extent (ids ++ r.id ∷ []) more) else bad_line (2 * length ids + 2))
    even_read extent even more b is = ap (λ b. if b then behind_entry (record { asked = r; said = content_of even }) (read_lines src extent (ids ++ r.id ∷ []) more) else bad_line (2 * length ids + 2)) is

    pub Decides-long : (even : Line) → is_reply even ≡ false → Decides src (asked_at r) even (verdict.BadRun (2 * length ids + 2))
    Decides-long even long = λ extent more. ap (told_of src (length ids) s) (even_read extent even more false long) ∙ told_bad src (length ids) s (2 * length ids + 2)

    -- what is told of an entry and the others
    told_entry : (said : List ℕ) (others : Reading) (b : Bool) → bytes_eq said wanted ≡ b
        → told_of src (length ids) s (behind_entry (record { asked = r; said = said }) others)
        ≡ or_bad others.bad (if b then differing (suc (suc (length ids))) others.entries (serial_outcomes src (run src s r.act).state (acts_in others.entries))
        else Some (verdict.Differs (suc (length ids)) wanted said))
    unfolding differing serial_outcomes
    told_entry said others b is =
        ap (λ b. or_bad others.bad (if b then differing (suc (suc (length ids))) others.entries (serial_outcomes src (run src s r.act).state (acts_in others.entries))
        else Some (verdict.Differs (suc (length ids)) wanted said))) is

    pub Decides-differs : (even : Line) → is_reply even ≡ true → bytes_eq (content_of even) wanted ≡ false
        → Decides src (asked_at r) even (verdict.Differs (suc (length ids)) wanted (content_of even))
    Decides-differs even short differs = λ extent more.
        ap (told_of src (length ids) s) (even_read extent even more true short)
        ∙ told_entry (content_of even) (read_lines src extent (ids ++ r.id ∷ []) more) false differs

    longer : length (ids ++ r.id ∷ []) ≡ suc (length ids)
    longer = omega (arith, length-append ids (r.id ∷ []))

    pub Passes-even : (even : Line) → is_reply even ≡ true → bytes_eq (content_of even) wanted ≡ true → Passes src (asked_at r) behind even
    Passes-even even short same = record {
      told = λ extent more.
          ap (told_of src (length ids) s) (even_read extent even more true short)
          ∙ told_entry (content_of even) (read_lines src extent (ids ++ r.id ∷ []) more) true same
          ∙ ap (λ n. told_of src n (run src s r.act).state (read_lines src extent (ids ++ r.id ∷ []) more)) (sym longer);
      count = λ extent more.
          ap (λ reading. length ids + length reading.entries) (even_read extent even more true short)
          ∙ omega (arith, longer);
      turns = refl;
    }
