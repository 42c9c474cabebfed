-- `units::within_backlog` meets its contract: the burst sum is within the buffer, and what it leaves of it holds the quotient exactly where
-- the products say so. Assumes nothing.
use native.Mathlib.Omega.{arith}
use borrow.Author.Tests.{lt-leb}
use Rattle.model.specs.Formula.{backlog_bound}
use Rattle.units.proofs.ProductLaws.{backlog-within}
use Rattle.units.proofs.within_backlog.Goals as goal

pub returns-then-burst-buffer : goal.returns-then-burst-buffer
returns-then-burst-buffer c =
    let args = c.args in
    backlog-within args.rate.0 args.burst.0 args.y.0 args.res.0 args.buffer.0 c.requires.1 (omega arith)

pub returns-else-burst-buffer : goal.returns-else-burst-buffer
unfolding backlog_bound
returns-else-burst-buffer c =
    let args = c.args in
    simp (lt-leb args.burst.0 args.buffer.0 c.if-burst-buffer.false, lt-leb (backlog_bound args.rate.0 args.burst.0 args.y.0 args.res.0) args.buffer.0 (omega arith))
