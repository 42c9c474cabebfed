-- An order that was read from a line can be carried out.
-- Assumes nothing.
use Rattle.std.specs.Prelude.{Result, Ok, Err}
use mathlib.Core.Path.{◌≡◌}
use mathlib.Core.List.{List}
use lib.ListN.{length}
use Rattle.model.proofs.Laws.Order.{Ranged}
use Rattle.orders.specs.declared.Order.{Order}
use Rattle.orders.specs.declared.Order.TheVariants.{Register, Release, Change}
use Rattle.orders.specs.declared.Unread.{Unread}
use Rattle.model.specs.Sizes.{hops_most}
use Rattle.queue_table.specs.declared.access.Hop.{Hop}
use Rattle.orders.specs.View.{order_with, hops_fit}
use Rattle.admission.specs.View.{OrderRead}

pub order-read : (hops : List Hop) (o : Result Order Unread) → length hops ≡ hops_most → hops_fit o → Ranged (order_with o hops) → OrderRead o hops
order-read hops (Ok (Register f)) long fit ranged = record { long = long; few = fit; range = ranged }
order-read hops (Ok (Release number)) long fit ranged = tt
order-read hops (Ok (Change c)) long fit ranged = ranged
order-read hops (Err unread) long fit ranged = tt
