mod TieLemmas
