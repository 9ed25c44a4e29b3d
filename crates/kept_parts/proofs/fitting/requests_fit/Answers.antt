use Rattle.entity_tables.specs.Views.{plain_tables}
use Rattle.request_history.specs.SoundHistory.{RequestFits}
use Rattle.kept_parts.proofs.EachLaws.{each_more, each_stop, fails, refuses}
use Rattle.kept_parts.proofs.fitting.requests_fit.Goals as goal

pub returns-then-not-request_fits : goal.returns-then-not-request_fits
returns-then-not-request_fits c = fails (each_stop (RequestFits (plain_tables c.args.tables.now)) c.args.requests.now c.loop-request.request-index c.request-item.result c.loop-request-test.true c.request-item.is (refuses c.request_fits.result c.if-not-request_fits.true c.request_fits.ensures))

pub loop-request-preserved : goal.loop-request-preserved
loop-request-preserved c = each_more (RequestFits (plain_tables c.args.tables.now)) c.args.requests.now c.loop-request.request-index c.request-item.result c.loop-request-test.true c.request-item.is c.loop-request.invariant (c.request_fits.ensures.0 c.if-not-request_fits.false)
