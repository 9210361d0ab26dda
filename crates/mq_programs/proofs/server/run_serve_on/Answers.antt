use Rattle.mq_programs.proofs.Servings.{ran}
use Rattle.mq_programs.proofs.server.run_serve_on.Goals as goal

pub returns-clause-printed : goal.returns-clause-printed
returns-clause-printed g c =
    ran c.args.words.now c.in-Some.options.connections c.in_ok-serve_on.field-0 c.serve_on.new.end (g.W.Write.contents c.args.output.now) (g.W.Write.contents c.serve_on.new.output)
    c.in-Some.ensures.same.1 c.in_ok-serve_on.ensures.printed
