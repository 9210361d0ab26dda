use Rattle.std.proofs.Common.{refl}
use Rattle.mq_picture.proofs.Charts.{client_ends, none_wait, same_wait, server_ends}
use Rattle.mq_picture.proofs.rows.Chart.end_all.Goals as goal

pub returns-in-Client-clause-chart : goal.returns-in-Client-clause-chart
returns-in-Client-clause-chart c = client_ends c.end_all.result c.args.self.now _ refl c.end_all.ensures.ends

pub returns-in-Client-clause-client : goal.returns-in-Client-clause-client
returns-in-Client-clause-client c = rw c.in-Client.is (none_wait c.end_all.result c.end_all.new.self c.end_all.ensures.none)

pub returns-in-Client-clause-server : goal.returns-in-Client-clause-server
returns-in-Client-clause-server c = rw c.in-Client.is (same_wait c.end_all.result c.args.self.now.to_server)

pub returns-in-Server-clause-chart : goal.returns-in-Server-clause-chart
returns-in-Server-clause-chart c = server_ends c.end_all-in-Server.result c.args.self.now _ refl c.end_all-in-Server.ensures.ends

pub returns-in-Server-clause-client : goal.returns-in-Server-clause-client
returns-in-Server-clause-client c = rw c.in-Server.is (same_wait c.end_all-in-Server.result c.args.self.now.to_client)

pub returns-in-Server-clause-server : goal.returns-in-Server-clause-server
returns-in-Server-clause-server c = rw c.in-Server.is (none_wait c.end_all-in-Server.result c.end_all-in-Server.new.self c.end_all-in-Server.ensures.none)
