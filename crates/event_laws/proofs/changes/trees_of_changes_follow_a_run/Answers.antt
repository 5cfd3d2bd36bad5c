use Rattle.event_laws.proofs.ChangesFollow.{changes-stopped, changes-follow}
use Rattle.event_laws.proofs.changes.trees_of_changes_follow_a_run.Goals as goal

pub returns-clause-follows : goal.returns-clause-follows
returns-clause-follows c = λ v g clk base seed taken meets changes fits d inside m n follows made words. changes-follow v g clk base seed taken meets changes fits d inside m n follows words made

pub returns-clause-failed : goal.returns-clause-failed
returns-clause-failed c = λ v g base seed taken meets f changes m n made words failed. changes-stopped v g 0 base seed taken meets f changes m n words made failed
