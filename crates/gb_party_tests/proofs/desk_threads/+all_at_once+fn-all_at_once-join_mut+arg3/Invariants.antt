use Rattle.gb_party_tests.proofs.desk_threads.+all_at_once+fn-all_at_once-join_mut+arg3.Given
    as goal

abbrev pub decreases-all_at_once : goal.decreases-all_at_once
decreases-all_at_once g l = l.last

abbrev pub decreases-join_mut+arg3 : goal.decreases-join_mut+arg3
decreases-join_mut+arg3 g l = l.below
