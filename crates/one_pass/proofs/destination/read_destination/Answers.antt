use Rattle.model_read.specs.Spelled.{spelled_name}
use Rattle.one_pass.proofs.destination.read_destination.Goals as goal

pub returns : goal.returns
returns c = record {
  name = spelled_name c.in_ok-name.name;
  kinds = c.in_ok-kinds.kinds.now;
  between = c.spelling.new.self;
  named = c.in_ok-name.ensures.reads;
  vertex = c.in_ok-target.ensures;
  takes = rw c.in_ok-target.ensures.meant c.in_ok-kinds.ensures;
  given = c.in_ok-values.ensures;
}
