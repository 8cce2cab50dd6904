mod Pooling
