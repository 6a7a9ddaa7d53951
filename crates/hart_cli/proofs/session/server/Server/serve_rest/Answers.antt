use Rattle.std.proofs.Common.{arith, refl, []}
use Rattle.std.proofs.KnownBytes.{Appends-nil}
use Rattle.std.proofs.lemmas.Grind.{common_steps}
use Rattle.hart_cli.specs.session.Server.{most_kept}
use Rattle.hart_cli.proofs.lemmas.session.Served.{serves_last_line, serves_no_line}
use Rattle.hart_cli.proofs.lemmas.session.Server.{kept_of, take_few}
use Rattle.hart_cli.proofs.session.server.Server.serve_rest.Goals as goal

pub serve_part-requires-clause-few : goal.serve_part-requires-clause-few
serve_part-requires-clause-few g c = take_few most_kept c.requires.part.0 c.args.self.now.part c.requires.part.1

pub returns-then-is_empty_line : goal.returns-then-is_empty_line
returns-then-is_empty_line g c = λ part keeps. record {
  after = c.args.self.now.station;
  said = [];
  serves = serves_no_line g.S.Station.serves c.args.self.now.station part c.args.self.now.part keeps (grind (arith, common_steps));
  writes = (Appends-nil _, refl);
}

pub returns : goal.returns
returns g c = λ part keeps. record {
  after = c.serve_part.new.self.station;
  said = c.serve_part.ensures.said;
  serves = serves_last_line g.S.Station.serves c.args.self.now.station c.serve_part.new.self.station part c.args.self.now.part
      c.serve_part.ensures.said keeps c.serve_part.ensures.serves (grind (arith, common_steps));
  writes = rw (c.as_slice-2.ensures.value, kept_of c.self-2.view_is, c.serve_part.ensures.kept, c.requires.quiet) at c.write_all.ensures;
}
