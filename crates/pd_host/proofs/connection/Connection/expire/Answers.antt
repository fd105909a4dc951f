-- The segment that is sent again ends among the octets that were sent.
use Rattle.pd_host.proofs.Runs.{again_within}
use Rattle.pd_host.proofs.connection.Connection.expire.Goals as goal

pub sent-requires-clause-low : goal.sent-requires-clause-low
sent-requires-clause-low c =
    (again_within c.self.inside.board c.clear_marks.new.self c.una-una.result c.run_at-segment.result
    c.una-una.ensures.known c.una-una.ensures.value c.clear_marks.ensures c.run_at-segment.ensures).0

pub sent-requires-clause-high : goal.sent-requires-clause-high
sent-requires-clause-high c =
    (again_within c.self.inside.board c.clear_marks.new.self c.una-una.result c.run_at-segment.result
    c.una-una.ensures.known c.una-una.ensures.value c.clear_marks.ensures c.run_at-segment.ensures).1
