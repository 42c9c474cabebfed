-- The sums to check by hand come out as given. By computation. Assumes nothing.
use Rattle.std.specs.Prelude.{◌≡◌, refl, map}
use Rattle.model.specs.Words.{nth}
use Rattle.model.specs.Total.{total, largest}
use Rattle.model.specs.Formula.{ceil_div, shortest_sending, hop_growth, burst_at_hop, residual, within_rate, delay_bound, backlog_bound, blocking, interference, level_residual, delay, backlog}
use Rattle.model.specs.Aggregates.{link_at, queue_at, threshold_of, speed_of, fixed_delay_of, shares}
use Rattle.model.specs.LinkCheck.{rate_code}
use Rattle.model.specs.Reference.{path_delay, whole, deadline_finding}
use Rattle.model.specs.WholeThresholds as before
use Rattle.model.specs.Gate.{time_passed, tokens_of}
use Rattle.model.specs.HandSums.{one, short, rate_only, link, links, behind, along, flow, bursts, whole_bursts, code, sum, hand_sums}

pub hand-sums : map (λ s. s.worked) hand_sums ≡ map (λ s. s.given) hand_sums
unfolding hand_sums sum one short rate_only link links behind along flow bursts whole_bursts code shares before.shares link_at queue_at threshold_of speed_of fixed_delay_of path_delay whole deadline_finding nth total largest ceil_div shortest_sending hop_growth burst_at_hop residual within_rate delay_bound backlog_bound blocking interference level_residual delay backlog rate_code time_passed tokens_of
hand-sums = refl
