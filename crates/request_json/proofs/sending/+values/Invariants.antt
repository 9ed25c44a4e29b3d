use Rattle.std.proofs.Common.{drop}
use Rattle.serde.specs.Event.{Log}
use Rattle.serde_json.specs.Events.{SendsItems}
use Rattle.request_json.specs.Sending.{ints_of}
use Rattle.request_json.specs.ValueData.{items_with}
use Rattle.request_json.proofs.sending.+values.Given as goal

-- what the values left come to is what all of them come to
abbrev pub invariant-send_values-loop-value : goal.invariant-send_values-loop-value
invariant-send_values-loop-value g l =
    let log = g.S.Serializer.written in
    let ints = ints_of l.ints in
    (end : Log) → SendsItems (items_with ints (drop l.value-index l.values)) (log l.out) end → SendsItems (items_with ints l.values) (log l.initial.out) end
