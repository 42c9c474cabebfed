-- `recording::replay_by` meets its contract: the run of the calls is a chain from the registry that was opened, of which all is claimed.
use Rattle.queue_table.specs.View.{table_of}
use Rattle.registry.specs.ClaimLaws.{claim}
use Rattle.recording.proofs.ReplayLaws.{same-verdict}
use Rattle.recording.proofs.replay_by.Goals as goal

pub returns : goal.returns
returns g c =
    let opens = c.open-opened.ensures in
    let runs = c.run-ran.ensures in
    let claimed = claim _ c.open-opened.result opens _ runs.given _ runs.chain in
    record {
      verdict = same-verdict _ _ c.open-opened.result.verdict (table_of c.open-opened.result.registry.table) c.run-ran.result.registry opens.verdict claimed.state;
      count = runs.count;
      end = runs.end;
      given = runs.given;
      claimed = claimed;
      written = runs.written;
    }
