-- Tables and their parts as plain ones.
use Rattle.std.specs.Prelude.{List, map}
use Rattle.py_tree.specs.PlainTypes.{plain_ty}
use Rattle.py_tree.specs.ClassRules.{PlainField, PlainSigParam, PlainSig, PlainTable}
use Rattle.entity_tables.specs.declared.table.Field.{Field}
use Rattle.entity_tables.specs.declared.table.SigParam.{SigParam}
use Rattle.entity_tables.specs.declared.table.Sig.{Sig}
use Rattle.entity_tables.specs.declared.table.ClassTable.{ClassTable}

abbrev pub plain_field : Field → PlainField
plain_field f = record { name = f.name.0; ty = plain_ty f.ty }

abbrev pub plain_sig_param : SigParam → PlainSigParam
plain_sig_param x = record { name = x.name.0; ty = plain_ty x.ty }

abbrev pub plain_sig : Sig → PlainSig
plain_sig s = record { name = s.name.0; params = map plain_sig_param s.params; result = plain_ty s.result }

abbrev pub plain_table : ClassTable → PlainTable
plain_table t = record {
  name = t.name.0;
  key_field = t.key_field;
  key_param = t.key_param;
  fields = map plain_field t.fields;
  methods = map plain_sig t.methods;
  init = map plain_sig_param t.init;
}

abbrev pub plain_tables : List ClassTable → List PlainTable
plain_tables = map plain_table
