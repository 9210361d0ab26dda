use Rattle.mq_picture.proofs.svg.write_note.Goals as goal

pub returns-in-Client : goal.returns-in-Client
returns-in-Client g c = rw (c.in-Client.is, ← c.look_of-look.ensures) c.writeln.ensures.bytes

pub returns-in-Server : goal.returns-in-Server
returns-in-Server g c = rw (c.in-Server.is, ← c.look_of-look.ensures) c.writeln-in-Server.ensures.bytes
