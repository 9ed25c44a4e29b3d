use Rattle.std.proofs.Common.{◌∙◌, sym, ap, map, []}
use Rattle.std.specs.Prelude.{unwrap_or}
use Rattle.py_tree.specs.declared.names.Name.{Name}
use Rattle.sf_value.specs.Keys.{key_of}
use Rattle.program_meaning.specs.World.{writing, with_field}
use Rattle.few_entities.specs.Entries.{refs_of}
use Rattle.few_entities.proofs.ListLaws.{put_in_place}
use Rattle.source_meaning.specs.Transactions.{world_of, keys_of}
use Rattle.source_meaning.proofs.TransactionLaws.{changed_record, world_written}
use Rattle.source_meaning.proofs.transaction.Transaction.set_field.Goals as goal

pub returns-in-Some : goal.returns-in-Some
returns-in-Some c =
    let t = c.args.self.now in
    let state = c.args.site.now.state.now in
    let at = c.args.site.now.me.now in
    let es = t.changed in
    let old = c.in-Some.fields in
    let made = c.set_field.new.fields in
    let held = changed_record state es at old (sym c.in-Some.ensures.value) in
    world_written state (keys_of (refs_of t.read)) es _ at made (put_in_place at c.new.result made c.replace-in-Some.result es c.replace.new.self c.replace-in-Some.new.self c.in-Some.ensures.entries c.replace-in-Some.ensures.value c.replace-in-Some.ensures.entries)
    ∙ ap (writing (world_of state t) (key_of at)) (c.set_field.ensures ∙ ap (λ fields. with_field (map (λ (x : Name). x.0) c.args.site.now.fields.now) fields c.args.name.0 c.args.value) (sym (ap (λ o. unwrap_or o []) held)))
