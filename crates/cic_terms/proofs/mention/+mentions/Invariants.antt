use Rattle.std.proofs.Common.{◌↔◌, drop}
use Rattle.cic_terms.specs.Denotes.{branches, bodies, terms, term_list, branch_list, body_list}
use Rattle.cic_terms.specs.Mentions.{ChildrenMention}
use Rattle.cic_terms.proofs.mention.+mentions.Given as goal

abbrev pub invariant-bodies_mention-loop-one : goal.invariant-bodies_mention-loop-one
invariant-bodies_mention-loop-one l = ChildrenMention l.id (body_list 0 (drop l.one-index l.one-items)) ↔ ChildrenMention l.id (bodies l.all)

abbrev pub invariant-branches_mention-loop-branch : goal.invariant-branches_mention-loop-branch
invariant-branches_mention-loop-branch l = ChildrenMention l.id (branch_list (drop l.branch-index l.branch-items)) ↔ ChildrenMention l.id (branches l.all)

abbrev pub invariant-terms_mention-loop-term : goal.invariant-terms_mention-loop-term
invariant-terms_mention-loop-term l = ChildrenMention l.id (term_list l.term-index (drop l.term-index l.term-items)) ↔ ChildrenMention l.id (terms l.all)
