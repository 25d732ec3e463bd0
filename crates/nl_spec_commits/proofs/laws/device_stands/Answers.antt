use Rattle.nl_iface.proofs.Tables.{is_table}
use Rattle.nl_spec_commits.proofs.laws.device_stands.Goals as goal

pub returns-clause-table : goal.returns-clause-table
returns-clause-table g c =
    let G = g.D.Counts in
    let s = c.args.device.now in
    is_table (G.shape s).pages (G.next_stamp s) (G.names s) (G.bytes s) (G.map s) (g.met.D.NamedPages.state s c.requires.formed)
