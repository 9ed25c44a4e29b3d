use Rattle.std.proofs.Common.{◌≡◌, [], drop, Some, sym, subst, arith}
use Rattle.std.proofs.lemmas.List.{drop_all}
use Rattle.std.proofs.lemmas.Result.{on_ok_weaker}
use Rattle.serde.specs.Event.{Logs, seq_begins}
use Rattle.serde_json.specs.Events.{SendsItems}
use Rattle.request_json.specs.Sending.{ints_of}
use Rattle.request_json.specs.ValueData.{items_with}
use Rattle.request_json.proofs.SentValues.{values_len, next_sent}
use Rattle.request_json.proofs.sending.+values.Goals as goal

pub send_values-returns : goal.send_values-returns
send_values-returns g t c =
    let values = c.args.values.now in
    let ints = ints_of c.args.ints in
    let log = g.S.Serializer.written in
    let opened = subst (λ n. Logs (log c.args.out.now) (log c.begin_seq.new.self) (seq_begins (Some n))) (sym (values_len ints values)) c.in_ok-begin_seq.ensures in
    let left : drop c.loop-value.value-index values ≡ [] = drop_all c.loop-value.value-index values (omega arith) in
    on_ok_weaker c.end_seq.result (λ ended.
    let closed = subst (λ vs. SendsItems (items_with ints vs) (log c.loop-value.out) (log c.end_seq.new.self)) (sym left) ended in
    (log c.begin_seq.new.self, opened, c.loop-value.invariant (log c.end_seq.new.self) closed)) c.end_seq.ensures

pub send_values-loop-value-preserved : goal.send_values-loop-value-preserved
send_values-loop-value-preserved g t c = λ end rest.
    let log = g.S.Serializer.written in
    c.loop-value.invariant end
    (next_sent (ints_of c.args.ints) c.args.values.now c.loop-value.value-index c.value-item.result c.loop-value-test.true c.value-item.is
    (log c.loop-value.out) (log c.send_value.new.out) end c.in_ok-send_value.ensures rest)
