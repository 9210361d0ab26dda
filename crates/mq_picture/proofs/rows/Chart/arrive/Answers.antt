use Rattle.std.proofs.Common.{refl}
use Rattle.mq_picture.proofs.Charts.{client_arrives, server_arrives}
use Rattle.mq_picture.proofs.rows.Chart.arrive.Goals as goal

pub returns-in-Client : goal.returns-in-Client
returns-in-Client c = λ history chart. rw c.in-Client.is (client_arrives c.arrive.result c.args.count c.args.lost c.args.self.now _ refl c.arrive.ensures history chart)

pub returns-in-Server : goal.returns-in-Server
returns-in-Server c = λ history chart. rw c.in-Server.is (server_arrives c.arrive-in-Server.result c.args.count c.args.lost c.args.self.now _ refl c.arrive-in-Server.ensures history chart)
