use Rattle.serde_json.specs.Data.{string}
use Rattle.run_report.specs.Entries.{entry_data}
use Rattle.run_report.specs.Items.{items_data}
use Rattle.run_report.proofs.TokenLemmas.{token, and_then, listed}
use Rattle.run_report.proofs.report.write_report.Goals as goal

pub returns : goal.returns
returns c =
    let actors = listed items_data c.in_ok-write_item_lists.ensures c.as_slice.ensures in
    let hosts = listed string c.in_ok-write_hosts.ensures c.as_slice-2.ensures in
    let journal = listed entry_data c.in_ok-write_entries.ensures c.as_slice-3.ensures in
    and_then (token c.in_ok-begin_object.ensures)
    (and_then (token c.in_ok-key.ensures)
    (and_then actors
    (and_then (token c.in_ok-key-2.ensures)
    (and_then hosts
    (and_then (token c.in_ok-key-3.ensures)
    (and_then journal
    (token c.in_ok-end_object.ensures)))))))
