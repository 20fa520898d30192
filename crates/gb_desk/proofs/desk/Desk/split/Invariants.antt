use Rattle.gb_desk.proofs.desk.Desk.split.Given as goal

-- as many parts as are asked for
abbrev pub ghosts-cut : goal.ghosts-cut
ghosts-cut a = record { count = a.parts }
